pub mod Told
pub mod ThirdDemand
pub mod Witness
pub mod RoundTrip
pub mod Sums
pub mod Struck
pub mod FourthBlock
pub mod Document

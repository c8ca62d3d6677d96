pub mod Running
pub mod Turns
pub mod RankLaws
pub mod EffectLaws
pub mod Made
pub mod Steps

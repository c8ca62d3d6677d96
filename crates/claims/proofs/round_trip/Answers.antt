use Rattle.claims.proofs.Trip.{round_trip}
use Rattle.claims.proofs.round_trip.Goals as goal

pub returns : goal.returns
returns c = round_trip

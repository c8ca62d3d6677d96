use Rattle.std.specs.Prelude.{map}
use Rattle.authority.specs.Found.{place_number}
use Rattle.authority.proofs.Listed.{SoundTo}
use Rattle.authority.proofs.Lines.authorize.Given as goal

abbrev pub invariant-loop-place : goal.invariant-loop-place
invariant-loop-place l =
    SoundTo l.self.store.now l.self.named.now (map place_number l.self.presented) (map place_number l.self.targets) l.order l.sound l.place-index

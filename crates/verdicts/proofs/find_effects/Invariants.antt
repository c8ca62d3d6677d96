use Rattle.std.proofs.Common.{◌≡◌, ℕ, Bool, map, length}
use Rattle.authority.specs.Found.{place_number}
use Rattle.verdicts.specs.Effects.{ByRank, Graded}
use Rattle.verdicts.proofs.Turns.{Turn}
use Rattle.verdicts.proofs.find_effects.Given as goal

abbrev pub invariant-loop-place : goal.invariant-loop-place
invariant-loop-place l =
    (length l.effective ≡ 256)
    × ((on : ℕ → ℕ → Bool) (rank : ℕ → ℕ) → Graded on rank (map place_number l.lines.presented) (map place_number l.lines.targets) l.list
    → ByRank rank l.list → Turn on (map place_number l.lines.targets) l.rows l.list l.keep l.effective l.place-index)

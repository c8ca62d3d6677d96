-- Marks, and the entries that they stand for.
use Prim.Native.Nat.{ℕ, zero, suc, ◌-◌, ◌≤◌}
use native.Mathlib.Omega.{arith}
use native.Mathlib.Numerals.{add-one}
use Rattle.std.specs.Prelude.{◌≡◌, Option, Some, None, SomeIff}
use Rattle.std.proofs.Math.Path.{refl, ap}
use Rattle.cabling.specs.Ports.{mark_of, place_of_mark}

-- the mark of an entry stands for it
pub marked : (o : Option ℕ) → place_of_mark (mark_of o) ≡ o
marked None = refl
marked (Some n) = rw (add-one n) refl

-- `join_at`: a mark's place is the mark less 1
pub unmarked : (m : ℕ) (o : Option ℕ) → SomeIff o (1 ≤ m) (m - 1) → o ≡ place_of_mark m
unmarked zero None s = refl
unmarked zero (Some n) s = let h = s.0 in absurd (omega arith)
unmarked (suc m) None s = absurd (s (omega arith))
unmarked (suc m) (Some n) s = let h = s.1 in ap Some (omega arith)

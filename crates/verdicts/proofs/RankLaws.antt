-- The places of a list by rank, where the list has no place twice.
use Prim.Native.Nat.{ℕ, zero, suc, ◌<◌, ◌≤◌}
use native.Mathlib.Omega.{arith}
use native.Mathlib.Nat.{not-suc-le-zero, le_of_suc-le-suc}
use mathlib.Core.Path.{◌≡◌, ap}
use mathlib.Core.Logic.{⊎_elim}
use mathlib.Core.List.Memᴰ
use mathlib.Core.List.{List, [], ◌∷◌, Memᴰ}
use lib.ListN.{length, get_or, take}
use Rattle.lists.specs.Bytes.{Bytes}
use Rattle.lists.proofs.Bytes.{precedes→}
use Rattle.lists.specs.Sorting.{Ascending}
use Rattle.lists.proofs.Sorting.{ascending_once, mem_get_d}
use Rattle.ordering.specs.Order.{ranked}
use Rattle.ordering.proofs.OrderLaws.{ranked-ascending, earlier}
use Rattle.verdicts.specs.Effects.{ByRank}

module _ (R l : List ℕ) (key : ℕ → Bytes) (sorted : Ascending key l) where
  -- no rank above that of an entry stands before it
  ascends : (m : List ℕ) → Ascending (λ k. get_or R k 0 ∷ key k) m → (i k : ℕ) → i < length m → Memᴰ k (take i m)
      → get_or R k 0 ≤ get_or R (get_or m i 0) 0
  ascends [] a i k h n = absurd (not-suc-le-zero h)
  ascends (x ∷ xs) a zero k h n = absurd (Memᴰ.not-nil n)
  ascends (x ∷ xs) a (suc i) k h n =
      let b = le_of_suc-le-suc h in
      let y = get_or xs i 0 in
      ⊎_elim
      (λ (p : k ≡ x).
      let same = ap (λ (z : ℕ). get_or R z 0) p in
      ⊎_elim (λ u. omega (arith, same, u)) (λ u. omega (arith, same, u.0))
      (precedes→ (get_or R x 0) (get_or R y 0) (key x) (key y) (a.0 y (mem_get_d xs i 0 b))))
      (λ j. ascends xs a.1 i k b j)
      (Memᴰ.cases_cons n)

  pub by_rank_lem : (r : ℕ) → ByRank (λ k. get_or R k 0) (ranked R l r)
  by_rank_lem r =
      let a = ranked-ascending R l key sorted r in
      record {
        once = λ i. ascending_once (λ k. get_or R k 0 ∷ key k) (ranked R l r) 0 i a;
        ascends = ascends (ranked R l r) a;
        lower_first = λ i k h m less. earlier R l key sorted (ranked R l r) k i a m h less;
      }

-- The places that the plain machine runs, as a loop collects them.
use Prim.Native.Nat.{ℕ, ◌+◌, ◌<◌, ◌≤◌}
use native.Mathlib.Omega.{arith}
use mathlib.Core.Path.{◌≡◌, refl, sym, ◌∙◌}
use mathlib.Core.Bool.{true, false}
use mathlib.Core.List.{List, [], ◌∷◌, ◌++◌, map}
use lib.Dec.{eqb}
use lib.ListN.{length, length-append, get_or, drop}
use Rattle.std.proofs.Common.{add-one, drop-cons}
use Rattle.std.proofs.lemmas.List.{drop_all, append_assoc, append-nil}
use Rattle.std.proofs.Math.ListN.{get_or-map}
use Rattle.ordering.specs.Order.{of_rank}
use Rattle.verdicts.specs.declared.Verdict.{Verdict}
use Rattle.verdicts.specs.declared.Verdict.TheVariants.{Waiting, Unsound, Void, Effective}
use Rattle.verdicts.specs.Numbers.{verdict_number}

-- verdict 3 is effective
is_3 : (v : Verdict) → v ≡ Effective → eqb (verdict_number v) 3 ≡ true
is_3 v e = rw e refl

not_3 : (v : Verdict) → (v ≡ Effective → ⊥) → eqb (verdict_number v) 3 ≡ false
not_3 Waiting n = refl
not_3 Unsound n = refl
not_3 Void n = refl
not_3 Effective n = absurd (n refl)

module _ (Z : List Verdict) (l : List ℕ) where
  -- those of the first i places
  pub record Running (run : List ℕ) (i : ℕ) : Type 0 where
    pub few : length run ≤ i
    pub laid : run ++ of_rank (map verdict_number Z) (drop i l) 3 ≡ of_rank (map verdict_number Z) l 3

  pub none : Running [] 0
  none = record { few = omega arith; laid = refl }

  pub all : (run : List ℕ) (i : ℕ) → length l ≤ i → Running run i → run ≡ of_rank (map verdict_number Z) l 3
  all run i h r = sym (append-nil run) ∙ rw (drop_all i l h) at r.laid

  module _ (run : List ℕ) (i : ℕ) (h : i < length l) (r : Running run i) where
    entry : get_or (map verdict_number Z) (get_or l i 0) 0 ≡ verdict_number (get_or Z (get_or l i 0) Waiting)
    entry = get_or-map verdict_number Z (get_or l i 0) Waiting

    pub more : get_or Z (get_or l i 0) Waiting ≡ Effective → Running (run ++ get_or l i 0 ∷ []) (i + 1)
    more e =
        record {
          few = omega (arith, r.few, length-append run (get_or l i 0 ∷ []));
          laid =
              rw (add-one i) (append_assoc run (get_or l i 0 ∷ []) _)
              ∙ rw (drop-cons l i 0 h, entry, is_3 _ e) at r.laid;
        }

    pub same : (get_or Z (get_or l i 0) Waiting ≡ Effective → ⊥) → Running run (i + 1)
    same n =
        record {
          few = omega (arith, r.few);
          laid = rw (add-one i) (rw (drop-cons l i 0 h, entry, not_3 _ n) at r.laid);
        }

-- Laws over the words of specs/Once.
-- A list of byte strings with each of them once.
use Rattle.std.specs.Prelude.{◌≡◌, refl, Bool, true, not}
use Rattle.std.proofs.Common.{ap, ⊎_elim}
use mathlib.Core.List.Memᴰ
use mathlib.Core.List.{List, [], ◌∷◌, Memᴰ}
use Rattle.std.proofs.lemmas.Bool.{not-true}
use Rattle.lists.specs.Cases.{by_bool, clash}
use Rattle.lists.specs.Bytes.{Bytes, same_bytes}
use Rattle.lists.proofs.Bytes.{same→, same←}
use Rattle.lists.specs.Tests.{keep, Within}
use Rattle.lists.proofs.Tests.{keep→, keep←, keep_all}
use Rattle.lists.specs.Sorting.{Distinct}
use Rattle.lists.proofs.Sorting.{keep_distinct}
use Rattle.lists.specs.Once.{once_each}

-- it has the same members
pub once→ : (l : List Bytes) → Within (once_each l) l
unfolding once_each
once→ [] y m = m
once→ (x ∷ xs) y m =
    ⊎_elim
    (λ p. Memᴰ.head p)
    (λ n. Memᴰ.tail (once→ xs y (keep→ (λ z. not (same_bytes z x)) (once_each xs) y n).0))
    (Memᴰ.cases_cons m)

pub once← : (l : List Bytes) → Within l (once_each l)
unfolding once_each
once← [] y m = m
once← (x ∷ xs) y m =
    by_bool (same_bytes y x)
    (λ t. Memᴰ.head (same→ y x t))
    (λ f. ⊎_elim
    (λ p. clash (same_bytes y x) (same← y x p) f)
    (λ n. Memᴰ.tail (keep← (λ z. not (same_bytes z x)) (once_each xs) y (once← xs y n) (rw f)))
    (Memᴰ.cases_cons m))

-- no two are equal
pub once_distinct : (l : List Bytes) → Distinct (λ x. x) (once_each l)
unfolding once_each
once_distinct [] = tt
once_distinct (x ∷ xs) = (other, keep_distinct (λ y. y) unlike (once_each xs) (once_distinct xs))
  where
    unlike : Bytes → Bool
    unlike y = not (same_bytes y x)

    other : (y : Bytes) → Memᴰ y (keep unlike (once_each xs)) → y ≡ x → ⊥
    other y m p = clash (same_bytes y x) (same← y x p) (not-true (same_bytes y x) (keep→ unlike (once_each xs) y m).1)

-- and a list in which no two are equal stays
pub once_same : (l : List Bytes) → Distinct (λ x. x) l → once_each l ≡ l
unfolding once_each
once_same [] d = refl
once_same (x ∷ xs) d = rw (once_same xs d.1) (ap (λ (r : List Bytes). x ∷ r) (keep_all unlike xs other))
  where
    unlike : Bytes → Bool
    unlike y = not (same_bytes y x)

    other : (y : Bytes) → Memᴰ y xs → unlike y ≡ true
    other y m = by_bool (same_bytes y x) (λ t. absurd (d.0 y m (same→ y x t))) (λ f. rw f)

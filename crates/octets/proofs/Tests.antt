-- The tests over whole byte strings, as std's words have them.
use mathlib.Core.Path.{◌≡◌, refl, ap, ◌∙◌}
use mathlib.Core.Bool.{◌&&◌, and-true, and_assoc}
use mathlib.Core.List.{[], ◌∷◌}
use Prim.Native.Nat.{ℕ}
use native.Mathlib.Omega.{arith}
use lib.Bits.{bit_or, or_add_and, and_le_l, and_le_r}
use lib.Dec.{eqb}
use lib.Pointwise.{pointwise}
use Rattle.std.specs.List.{fold}
use Rattle.std.specs.Ordering.{nat_cmp, is_lt}
use Rattle.std.specs.Cmp.Lexicographic.{slice_cmp}
use Rattle.std.proofs.lemmas.Bool.Decides.{nat_tests}
use Rattle.std.proofs.lemmas.Cmp.{same_from_slice_cmp}
use Rattle.lists.specs.Bytes.{Bytes, same_bytes, precedes}
use Rattle.octets.specs.Octets.{all_zero}

-- a union of bits is empty where both are
or_zero : (a b : ℕ) → eqb (bit_or a b) 0 ≡ (eqb a 0 && eqb b 0)
or_zero a b = grind (arith, nat_tests, or_add_and a b, and_le_l a b, and_le_r a b)

bits_left : (s : Bytes) (bits : ℕ) → eqb (fold bit_or bits s) 0 ≡ (eqb bits 0 && all_zero s)
unfolding all_zero
bits_left [] bits = rw (and-true)
bits_left (x ∷ s) bits = bits_left s (bit_or bits x) ∙ rw (or_zero bits x, and_assoc)

-- the bits of all bytes together are none where each byte has none
pub no_bits : (s : Bytes) → eqb (fold bit_or 0 s) 0 ≡ all_zero s
no_bits s = bits_left s 0

pub same_pointwise : (a b : Bytes) → pointwise eqb a b ≡ same_bytes a b
unfolding same_bytes
same_pointwise [] [] = refl
same_pointwise [] (y ∷ b) = refl
same_pointwise (x ∷ a) [] = refl
same_pointwise (x ∷ a) (y ∷ b) = ap (λ t. eqb x y && t) (same_pointwise a b)

pub before_compared : (a b : Bytes) → is_lt (slice_cmp nat_cmp a b) ≡ precedes a b
unfolding precedes
before_compared a b = same_from_slice_cmp nat_cmp is_lt precedes refl (λ _ _. refl) (λ _ _. refl) (λ x y xs ys o h. grind (arith, nat_tests)) a b _ refl

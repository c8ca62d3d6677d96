-- Bits of one word.
use Prim.Native.Nat.{ℕ, suc, ◌+◌, ◌-◌, ◌*◌, ◌/◌, ◌%◌, ◌^◌, ◌<◌, ◌≤◌}
use native.Mathlib.Omega.{arith}
use native.Mathlib.Nat.{pow-suc, div-eq_of_lt, one-mul, zero-div}
use mathlib.Core.Path.{◌≡◌, refl, sym, ap, ◌∙◌}
use mathlib.Core.Bool.{Bool, true, false, ◌&&◌, ◌||◌}
use lib.Bits.{bit_and, bit_or, or_shr, or_mod, and_shr, and_mod, and_mask}
use lib.Dec.{eqb, ltb}
use lib.Pow.{pow-lt, pow-add, shl-shr, shl_exact}
use borrow.Author.Tests.{eqb-true, eqb-false, ltb-true, ltb-false}
use Rattle.lists.specs.Cases.{by_bool, and→}

abbrev pub bit : ℕ → ℕ → Bool
bit x b = eqb (x / 2 ^ b % 2) 1

-- a law of two digits is computed at 0 and 1
digits : (f g : ℕ → ℕ → Bool) → f 0 0 ≡ g 0 0 → f 0 1 ≡ g 0 1 → f 1 0 ≡ g 1 0 → f 1 1 ≡ g 1 1 → (a b : ℕ) → a < 2 → b < 2 → f a b ≡ g a b
digits f g p q r s a b h l =
    by_bool (eqb a 0)
    (λ t. let e : a ≡ 0 = eqb-true a 0 t in
    by_bool (eqb b 0)
    (λ u. let d : b ≡ 0 = eqb-true b 0 u in rw (e, d) p)
    (λ v. let n : b ≡ 0 → ⊥ = eqb-false b 0 v in let d : b ≡ 1 = omega arith in rw (e, d) q))
    (λ w. let m : a ≡ 0 → ⊥ = eqb-false a 0 w in let e : a ≡ 1 = omega arith in
    by_bool (eqb b 0)
    (λ u. let d : b ≡ 0 = eqb-true b 0 u in rw (e, d) r)
    (λ v. let n : b ≡ 0 → ⊥ = eqb-false b 0 v in let d : b ≡ 1 = omega arith in rw (e, d) s))

pub or-bit : (x y b : ℕ) → bit (bit_or x y) b ≡ (bit x b || bit y b)
or-bit x y b =
    let e : bit_or x y / 2 ^ b % 2 ≡ bit_or (x / 2 ^ b % 2) (y / 2 ^ b % 2) = ap (λ z. z % 2) (or_shr x y b) ∙ or_mod (x / 2 ^ b) (y / 2 ^ b) 1 in
    rw e (digits (λ a d. eqb (bit_or a d) 1) (λ a d. eqb a 1 || eqb d 1) refl refl refl refl (x / 2 ^ b % 2) (y / 2 ^ b % 2) (omega arith) (omega arith))

pub and-bit : (x y b : ℕ) → bit (bit_and x y) b ≡ (bit x b && bit y b)
and-bit x y b =
    let e : bit_and x y / 2 ^ b % 2 ≡ bit_and (x / 2 ^ b % 2) (y / 2 ^ b % 2) = ap (λ z. z % 2) (and_shr x y b) ∙ and_mod (x / 2 ^ b) (y / 2 ^ b) 1 in
    rw e (digits (λ a d. eqb (bit_and a d) 1) (λ a d. eqb a 1 && eqb d 1) refl refl refl refl (x / 2 ^ b % 2) (y / 2 ^ b % 2) (omega arith) (omega arith))

pub zero_bit : (b : ℕ) → bit 0 b ≡ false
zero_bit b = let e : 0 / 2 ^ b ≡ 0 = zero-div (2 ^ b) in rw e

power_own : (j : ℕ) → bit (2 ^ j) j ≡ true
power_own j = let e : 2 ^ j / 2 ^ j ≡ 1 = ap (λ z. z / 2 ^ j) (sym (one-mul (2 ^ j))) ∙ shl-shr 1 j in rw e

power_above : (d b : ℕ) → bit (2 ^ (suc d + b)) b ≡ false
power_above d b =
    let e : 2 ^ (suc d + b) / 2 ^ b ≡ 2 ^ d * 2 = ap (λ z. z / 2 ^ b) (pow-add 2 (suc d) b) ∙ shl-shr (2 ^ suc d) b ∙ pow-suc 2 d in
    let m : 2 ^ d * 2 % 2 ≡ 0 = omega arith in
    rw (e, m)

power_below : (j b : ℕ) → j < b → bit (2 ^ j) b ≡ false
power_below j b h = let e : 2 ^ j / 2 ^ b ≡ 0 = div-eq_of_lt (pow-lt h) in rw e

-- a power of two has one bit
power_bit : (j b : ℕ) → bit (2 ^ j) b ≡ eqb b j
power_bit j b =
    by_bool (eqb b j)
    (λ t. let q : b ≡ j = eqb-true b j t in rw (t, q) (power_own j))
    (λ f.
    let ne : b ≡ j → ⊥ = eqb-false b j f in
    by_bool (ltb j b)
    (λ t. rw f (power_below j b (ltb-true j b t)))
    (λ g.
    let l : b ≤ j = ltb-false j b g in
    let e : j ≡ suc (j - b - 1) + b = omega arith in
    rw f (ap (λ z. bit (2 ^ z) b) e ∙ power_above (j - b - 1) b)))

pub one_bit : (j b : ℕ) → j < 64 → bit (1 * 2 ^ j % 2 ^ 64) b ≡ eqb b j
one_bit j b h =
    let e : 1 * 2 ^ j % 2 ^ 64 ≡ 2 ^ j = shl_exact {a = 1} 1 j 64 (omega arith) (omega arith) ∙ one-mul (2 ^ j) in
    rw e (power_bit j b)

-- every bit of the greatest word is set
pub ones_bit : (b : ℕ) → b < 64 → bit 18446744073709551615 b ≡ true
ones_bit b h =
    let m : bit_and (2 ^ b) 18446744073709551615 ≡ 2 ^ b = and_mask (2 ^ b) 64 ∙ ap (λ z. z % 2 ^ 64) (sym (one-mul (2 ^ b)))
    ∙ shl_exact {a = 1} 1 b 64 (omega arith) (omega arith) ∙ one-mul (2 ^ b) in
    let own = power_own b in
    (and→ (bit (2 ^ b) b) (bit 18446744073709551615 b) (sym (and-bit (2 ^ b) 18446744073709551615 b) ∙ ap (λ z. bit z b) m ∙ own)).1

-- FIPS 180-4, sections 3.2 and 4.1.2: words of 32 bits, which are numbers below 2 ^ 32, and the functions on them.
use Rattle.std.specs.Prelude.{ℕ, ◌+◌, ◌-◌, ◌*◌, ◌/◌, ◌%◌, ◌^◌, bit_and, bit_or, bit_xor}

infixl 65 ◌⊞◌
infixl 60 ◌⊻◌
-- 3.2, 1: "¬ x", and exclusive or, which FIPS writes "⊕". ("∧" and "∨" are the library's bitAnd and bitOr.)
abbrev pub complement : ℕ → ℕ
complement x = 2 ^ 32 - 1 - x

abbrev pub ◌⊻◌ : ℕ → ℕ → ℕ
x ⊻ y = bit_xor x y

-- 3.2, 2: "x + y", the sum modulo 2 ^ 32
abbrev pub ◌⊞◌ : ℕ → ℕ → ℕ
x ⊞ y = (x + y) % 2 ^ 32

-- 3.2, 3: "SHRⁿ(x) = x >> n"
abbrev pub SHR : ℕ → ℕ → ℕ
SHR n x = x / 2 ^ n

-- 3.2, 4: "ROTRⁿ(x) = (x >> n) ∨ (x << w - n)"
abbrev pub ROTR : ℕ → ℕ → ℕ
ROTR n x = bit_or (x / 2 ^ n) (x * 2 ^ (32 - n) % 2 ^ 32)

-- 4.1.2, (4.2): "(x ∧ y) ⊕ (¬ x ∧ z)"
abbrev pub Ch : ℕ → ℕ → ℕ → ℕ
Ch x y z = bit_and x y ⊻ bit_and (complement x) z

-- 4.1.2, (4.3): "(x ∧ y) ⊕ (x ∧ z) ⊕ (y ∧ z)"
abbrev pub Maj : ℕ → ℕ → ℕ → ℕ
Maj x y z = bit_and x y ⊻ bit_and x z ⊻ bit_and y z

-- 4.1.2, (4.4) to (4.7)
abbrev pub Σ0 : ℕ → ℕ
Σ0 x = ROTR 2 x ⊻ ROTR 13 x ⊻ ROTR 22 x

abbrev pub Σ1 : ℕ → ℕ
Σ1 x = ROTR 6 x ⊻ ROTR 11 x ⊻ ROTR 25 x

abbrev pub σ0 : ℕ → ℕ
σ0 x = ROTR 7 x ⊻ ROTR 18 x ⊻ SHR 3 x

abbrev pub σ1 : ℕ → ℕ
σ1 x = ROTR 17 x ⊻ ROTR 19 x ⊻ SHR 10 x

-- Bits of a row: in a row of equal words, after one bit is set, and of two rows put together.
use Prim.Native.Nat.{ℕ, zero, suc, ◌/◌, ◌%◌, ◌*◌, ◌^◌, ◌<◌}
use native.Mathlib.Omega.{arith}
use mathlib.Core.Path.{◌≡◌, refl, sym, ap, ◌∙◌}
use mathlib.Core.Bool.{Bool, true, false, ◌&&◌, ◌||◌, or-false}
use mathlib.Core.List.{List, [], ◌∷◌}
use lib.Bits.{bit_and, bit_or}
use lib.Dec.{eqb, ltb}
use lib.ListN.{length, get_or, set}
use lib.Seq.{get_or-set_same, get_or-set_other}
use borrow.Author.Tests.{eqb-true, eqb-false, eq-eqb, ne_eqb, ltb-true, ltb-false, lt-ltb}
use Rattle.std.proofs.lemmas.List.{get_or-replicate}
use Rattle.lists.specs.Cases.{by_bool, bool_eq}
use Rattle.tables.specs.declared.BitRow.{BitRow}
use Rattle.tables.specs.Bits.{bit_in}
use Rattle.tables.proofs.WordBits.{bit, or-bit, and-bit, zero_bit, one_bit, ones_bit}

abbrev row : List ℕ → BitRow
row words = record { words = words }

pub bit_inside : (words : List ℕ) (j : ℕ) → j < 256 → bit_in (row words) j ≡ bit (get_or words (j / 64) 0) (j % 64)
unfolding bit_in
bit_inside words j h = rw (lt-ltb j 256 h)

-- ── one word four times ─────────────────────────────────────────────────────────────────────────────────────────────────

word : (w j : ℕ) → j < 256 → get_or (w ∷ w ∷ w ∷ w ∷ []) (j / 64) 0 ≡ w
word w j h = get_or-replicate 4 (j / 64) w 0 (omega arith)

pub none_set : (j : ℕ) → bit_in (row (0 ∷ 0 ∷ 0 ∷ 0 ∷ [])) j ≡ false
unfolding bit_in
none_set j = by_bool (ltb j 256) (λ t. rw (t, word 0 j (ltb-true j 256 t), zero_bit (j % 64))) (λ f. rw f)

pub all_set : (j : ℕ) → j < 256
    → bit_in (row (18446744073709551615 ∷ 18446744073709551615 ∷ 18446744073709551615 ∷ 18446744073709551615 ∷ [])) j ≡ true
all_set j h = bit_inside _ j h ∙ rw (word 18446744073709551615 j h) (ones_bit (j % 64) (omega arith))

-- ── one bit more ────────────────────────────────────────────────────────────────────────────────────────────────────────

pub bit_inserted : (words : List ℕ) (j : ℕ) → length words ≡ 4 → j < 256 → (b : ℕ)
    → bit_in (row (set words (j / 64) (bit_or (get_or words (j / 64) 0) (1 * 2 ^ (j % 64) % 2 ^ 64)))) b ≡ (bit_in (row words) b || eqb b j)
unfolding bit_in
bit_inserted words j size h b =
    let q = j / 64 in
    let w = bit_or (get_or words q 0) (1 * 2 ^ (j % 64) % 2 ^ 64) in
    by_bool (ltb b 256)
    (λ t.
    let u : b < 256 = ltb-true b 256 t in
    by_bool (eqb (b / 64) (j / 64))
    (λ s.
    let e : b / 64 ≡ j / 64 = eqb-true (b / 64) (j / 64) s in
    let digit : eqb (b % 64) (j % 64) ≡ eqb b j =
    bool_eq (eqb (b % 64) (j % 64)) (eqb b j)
    (λ z. let y : b % 64 ≡ j % 64 = eqb-true (b % 64) (j % 64) z in eq-eqb b j (omega arith))
    (λ z. let y : b ≡ j = eqb-true b j z in eq-eqb (b % 64) (j % 64) (omega arith)) in
    rw (t, e, get_or-set_same words q w 0 (omega arith))
    (or-bit (get_or words q 0) (1 * 2 ^ (j % 64) % 2 ^ 64) (b % 64)
    ∙ ap (λ z. bit (get_or words q 0) (b % 64) || z) (one_bit (j % 64) (b % 64) (omega arith) ∙ digit)))
    (λ f.
    let ne : b / 64 ≡ j / 64 → ⊥ = eqb-false (b / 64) (j / 64) f in
    rw (t, get_or-set_other words q (b / 64) w 0 ne, ne_eqb b j (λ x. ne (rw x))) (sym (or-false (bit (get_or words (b / 64) 0) (b % 64))))))
    (λ f. let g = ltb-false b 256 f in rw (f, ne_eqb b j (λ z. omega arith)))

-- ── two rows put together ───────────────────────────────────────────────────────────────────────────────────────────────

-- the words each with the other's of its place: the bits are put together alike
abbrev Joined : (ℕ → ℕ → ℕ) → List ℕ → List ℕ → List ℕ → ℕ → Type 0
Joined op words own other i = get_or words i 0 ≡ op (get_or own i 0) (get_or other i 0)

module _ (op : ℕ → ℕ → ℕ) (on : Bool → Bool → Bool) (law : (x y b : ℕ) → bit (op x y) b ≡ on (bit x b) (bit y b)) (none : on false false ≡ false)
    (words own other : List ℕ) where
  abbrev At : ℕ → Type 0
  At = Joined op words own other

  paired : At 0 → At 1 → At 2 → At 3 → (b : ℕ) → bit_in (row words) b ≡ on (bit_in (row own) b) (bit_in (row other) b)
  unfolding bit_in
  paired p q r s b =
      by_bool (ltb b 256)
      (λ t.
      let l : b < 256 = ltb-true b 256 t in
      rw (t, each (b / 64) (omega arith)) (law (get_or own (b / 64) 0) (get_or other (b / 64) 0) (b % 64)))
      (λ f. rw f (sym none))
    where
      each : (i : ℕ) → i < 4 → At i
      each zero l = p
      each (suc zero) l = q
      each (suc (suc zero)) l = r
      each (suc (suc (suc zero))) l = s
      each (suc (suc (suc (suc i)))) l = let f : suc (suc (suc (suc i))) < 4 = l in let z : ⊥ = omega arith in absurd z

pub united : (words own other : List ℕ) → Joined bit_or words own other 0 → Joined bit_or words own other 1
    → Joined bit_or words own other 2 → Joined bit_or words own other 3
    → (b : ℕ) → bit_in (row words) b ≡ (bit_in (row own) b || bit_in (row other) b)
united = paired bit_or ◌||◌ or-bit refl

pub met : (words own other : List ℕ) → Joined bit_and words own other 0 → Joined bit_and words own other 1
    → Joined bit_and words own other 2 → Joined bit_and words own other 3
    → (b : ℕ) → bit_in (row words) b ≡ (bit_in (row own) b && bit_in (row other) b)
met = paired bit_and ◌&&◌ and-bit refl

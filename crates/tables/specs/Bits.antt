-- Rows of bits: a row has one bit for each of 256 places, in four words of 64; a table has a row for each place.
use Rattle.std.specs.Prelude.{ℕ, ◌/◌, ◌%◌, ◌^◌, ◌≤◌, ◌<◌, ◌≡◌, refl, Bool, false, ◌&&◌, ◌||◌, not, cond, List, [], eqb, ltb, length, get_or, set, replicate}
use Rattle.std.proofs.Common.{sym, ap, ◌∙◌, le-ltb, ltb-true, ltb-false, eq-eqb, eqb-true, get_or-set_same, get_or-set_other}
use native.Mathlib.Nat.{zero-div}
use mathlib.Core.Bool.{and-true, and-false, or-false}
use Rattle.std.proofs.lemmas.Bool.{eqb-false}
use Rattle.std.proofs.lemmas.List.{get_or-replicate, length-replicate}
use Rattle.std.proofs.Math.ListN.{get_or-eq_default}
use Rattle.lists.specs.Cases.{by_bool}
use Rattle.tables.specs.declared.BitRow.{BitRow}

-- bit j of a row; no row has a bit for what is no place
unfoldable pub bit_in : BitRow → ℕ → Bool
bit_in row j = ltb j 256 && eqb (get_or row.words (j / 64) 0 / 2 ^ (j % 64) % 2) 1

-- a row without a bit
abbrev pub no_bits : BitRow
no_bits = record { words = [] }

-- bit j of row k of a table; past its end there is none
unfoldable pub bit_at : List BitRow → ℕ → ℕ → Bool
bit_at rows k j = bit_in (get_or rows k no_bits) j

pub bit_high : (rows : List BitRow) (k j : ℕ) → 256 ≤ j → bit_at rows k j ≡ false
unfolding bit_in bit_at
bit_high rows k j h = rw (le-ltb j 256 h)

none_in : (j : ℕ) → bit_in no_bits j ≡ false
unfolding bit_in
none_in j = let zero : 0 / 2 ^ (j % 64) ≡ 0 = zero-div (2 ^ (j % 64)) in rw zero (and-false (ltb j 256))

-- a table of equal rows
pub bit_repeated : (n : ℕ) (row : BitRow) (k j : ℕ) → bit_at (replicate n row) k j ≡ (ltb k n && bit_in row j)
unfolding bit_at
bit_repeated n row k j =
    by_bool (ltb k n)
    (λ t. rw t (ap (λ (r : BitRow). bit_in r j) (get_or-replicate n k row no_bits (ltb-true k n t))))
    (λ f.
    let past : length (replicate n row) ≤ k = simp length-replicate (ltb-false k n f) in
    rw f (ap (λ (r : BitRow). bit_in r j) (get_or-eq_default (replicate n row) no_bits past) ∙ none_in j))

-- row k written
pub bit_written : (rows : List BitRow) (k : ℕ) (row : BitRow) → k < length rows → (a b : ℕ)
    → bit_at (set rows k row) a b ≡ cond (eqb a k) (bit_in row b) (bit_at rows a b)
unfolding bit_at
bit_written rows k row h a b =
    by_bool (eqb a k)
    (λ t. rw (eqb-true a k t, eq-eqb k k refl) (ap (λ (r : BitRow). bit_in r b) (get_or-set_same rows k row no_bits h)))
    (λ f. rw f (ap (λ (r : BitRow). bit_in r b) (get_or-set_other rows k a row no_bits (eqb-false a k f))))

-- row k united with another, and met with another: the other rows are as before
module _ (rows : List BitRow) (k : ℕ) (row other : BitRow) (h : k < length rows) where
  pub bit_united : ((b : ℕ) → bit_in row b ≡ (bit_in (get_or rows k no_bits) b || bit_in other b)) → (a b : ℕ)
      → bit_at (set rows k row) a b ≡ (bit_at rows a b || (eqb a k && bit_in other b))
  unfolding bit_at
  bit_united u a b =
      bit_written rows k row h a b
      ∙ by_bool (eqb a k) (λ t. rw (t, eqb-true a k t, u b)) (λ f. rw f (sym (or-false (bit_at rows a b))))

  pub bit_met : ((b : ℕ) → bit_in row b ≡ (bit_in (get_or rows k no_bits) b && bit_in other b)) → (a b : ℕ)
      → bit_at (set rows k row) a b ≡ (bit_at rows a b && (not (eqb a k) || bit_in other b))
  unfolding bit_at
  bit_met m a b =
      bit_written rows k row h a b
      ∙ by_bool (eqb a k) (λ t. rw (t, eqb-true a k t, m b)) (λ f. rw f (sym (and-true (bit_at rows a b))))

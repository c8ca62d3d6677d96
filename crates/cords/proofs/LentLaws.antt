-- Laws over the words of specs/LentLaws.
-- What check 12 passes: exactly the strings of 512 bytes whose entries are equal both ways and 0 for unlike families.
use Rattle.std.specs.Prelude.{ℕ, zero, suc, ◌+◌, ◌*◌, ◌/◌, ◌%◌, ◌<◌, ◌≡◌, refl, Bool, true, false, ◌&&◌, eqb, ltb, length}
use Rattle.std.specs.List.{list_all, range_with_len}
use Rattle.std.proofs.Common.{arith, add-one, sym, ap, ap₂, ◌∙◌}
use mathlib.Core.Bool.{and-true, and_assoc}
use borrow.Author.Tests.{ne_eqb, eqb-true, eqb-false, eq-eqb, ltb-true, ltb-false}
use Rattle.std.proofs.lemmas.Bool.Decides.{nat_tests}
use Rattle.lists.specs.Cases.{by_bool, bool_eq, and→, and←}
use Rattle.lists.specs.Bytes.{Bytes}
use Rattle.cords.specs.Cords.{family}
use Rattle.cords.specs.Lent.{lent_entry, pair_good, all_below, table_good}
use Rattle.cords.specs.LentLaws.{GoodTable, row_good}

pub below→ : (test : ℕ → Bool) (n : ℕ) → all_below test n ≡ true → (k : ℕ) → k < n → test k ≡ true
unfolding all_below
below→ test zero e k h = absurd (omega arith)
below→ test (suc n) e k h =
    let p = and→ (all_below test n) (test n) e in
    by_bool (eqb k n) (λ t. rw (eqb-true k n t) p.1) (λ f. let ne = eqb-false k n f in below→ test n p.0 k (omega arith))

pub below← : (test : ℕ → Bool) (n : ℕ) → ((k : ℕ) → k < n → test k ≡ true) → all_below test n ≡ true
unfolding all_below
below← test zero h = refl
below← test (suc n) h = and← (all_below test n) (test n) (below← test n (λ k g. h k (omega arith))) (h n (omega arith))

-- the same, as `all` has it: a test of the numbers from a on, behind that of the numbers below a
all_from : (test : ℕ → Bool) (n a b : ℕ) → a + n ≡ b → (all_below test a && list_all test (range_with_len a n)) ≡ all_below test b
unfolding all_below
all_from test zero a b e = let same : a ≡ b = omega arith in and-true (all_below test a) ∙ ap (all_below test) same
all_from test (suc n) a b e =
    let rest = list_all test (range_with_len (a + 1) n) in
    sym (and_assoc (all_below test a) (test a) rest)
    ∙ ap (λ t. t && rest) (sym (ap (all_below test) (add-one a)))
    ∙ all_from test n (a + 1) b (omega arith)

pub all_numbers : (test : ℕ → Bool) (n : ℕ) → list_all test (range_with_len 0 n) ≡ all_below test n
unfolding all_below
all_numbers test n = all_from test n 0 n (omega arith)

-- ── one pair ────────────────────────────────────────────────────────────────────────────────────────────────────────────

module _ (table : Bytes) (a b : ℕ) where
  abbrev Pair : Type 0
  Pair = (lent_entry table a b ≡ lent_entry table b a) × ((family a ≡ family b → ⊥) → lent_entry table a b ≡ 0)

  pub pair→ : pair_good table a b ≡ true → Pair
  unfolding pair_good
  pair→ t = (grind (arith, nat_tests), λ unlike. grind (arith, nat_tests))

  pub pair← : Pair → pair_good table a b ≡ true
  unfolding pair_good
  pair← p = grind (arith, nat_tests)

-- ── the whole table ─────────────────────────────────────────────────────────────────────────────────────────────────────

module _ (table : Bytes) where
  abbrev pair_at : ℕ → Bool
  pair_at k = pair_good table (k / 16) (k % 16)

  pub table→ : table_good table ≡ true → GoodTable table
  unfolding table_good
  table→ e = record {
    long = eqb-true _ _ p.0;
    mirrored = λ a b ha hb. (pair a b ha hb).0;
    apart = λ a b ha hb. (pair a b ha hb).1;
  }
    where
      p : (eqb (length table) 512 ≡ true) × (all_below pair_at 256 ≡ true)
      p = and→ (eqb (length table) 512) (all_below pair_at 256) e

      pair : (a b : ℕ) → a < 16 → b < 16 → Pair table a b
      pair a b ha hb =
          let row : (16 * a + b) / 16 ≡ a = omega arith in
          let column : (16 * a + b) % 16 ≡ b = omega arith in
          pair→ table a b (sym (ap₂ (pair_good table) row column) ∙ below→ pair_at 256 p.1 (16 * a + b) (omega arith))

  good-pair : GoodTable table → (a b : ℕ) → a < 16 → b < 16 → pair_good table a b ≡ true
  good-pair g a b ha hb = pair← table a b (g.mirrored a b ha hb, g.apart a b ha hb)

  pub table← : GoodTable table → table_good table ≡ true
  unfolding table_good
  table← g =
      and← (eqb (length table) 512) (all_below pair_at 256) (eq-eqb _ _ g.long)
      (below← pair_at 256 (λ k h. good-pair g (k / 16) (k % 16) (omega arith) (omega arith)))

  module _ (long : length table ≡ 512) (t : all_below (row_good table) 16 ≡ true) where
    at : (a b : ℕ) → b < a → a < 16 → Pair table a b
    at a b h ha = pair→ table a b (below→ (λ k. pair_good table a k) a (below→ (row_good table) 16 t a ha) b h)

    -- of two kinds one is the lower, or they are one
    pair_once : (a b : ℕ) → a < 16 → b < 16 → Pair table a b
    pair_once a b ha hb =
        by_bool (ltb b a) (λ u. at a b (ltb-true b a u) ha)
        (λ f. by_bool (ltb a b)
        (λ u. let p = at b a (ltb-true a b u) hb in (sym p.0, λ unlike. sym p.0 ∙ p.1 (λ e. unlike (sym e))))
        (λ g.
        let same : a ≡ b = omega (arith, ltb-false b a f, ltb-false a b g) in
        (ap₂ (lent_entry table) same (sym same), λ unlike. absurd (unlike (ap family same)))))

    once_good : GoodTable table
    once_good = record { long = long; mirrored = λ a b ha hb. (pair_once a b ha hb).0; apart = λ a b ha hb. (pair_once a b ha hb).1 }

  -- check 12 needs to look at each pair once
  pub table_once : length table ≡ 512 → table_good table ≡ all_below (row_good table) 16
  table_once long =
      bool_eq (table_good table) (all_below (row_good table) 16)
      (λ t. below← (row_good table) 16 (λ a ha. below← (λ b. pair_good table a b) a (λ b hb. good-pair (table→ t) a b ha (omega arith))))
      (λ t. table← (once_good long t))

  pub wrong_length : (length table ≡ 512 → ⊥) → table_good table ≡ false
  unfolding table_good
  wrong_length h = rw (ne_eqb (length table) 512 h)

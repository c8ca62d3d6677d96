-- The rounds with 16 words of the schedule at hand.
-- Assumes nothing.
use Rattle.std.proofs.Common.{◌≡◌, ℕ, ◌+◌, ◌-◌, ◌%◌, ◌<◌, ◌≤◌, eqb, List, [], length, get_or, set, sym, refl, ap, ◌∙◌, add-one, arith, length-set, get_or-set_other, get_or-set_same, eqb-true}
use lib.Seq.{get_or_at}
use borrow.Author.Tests.{eqb-false}
use Rattle.lists.specs.Cases.{by_bool}
use Rattle.sha256.specs.Words.{◌⊞◌, σ0, σ1}
use Rattle.sha256.specs.Constants.{K}
use Rattle.sha256.specs.Sha256.{next_word, extended, one_round, rounds}
use Rattle.sha256.specs.Rolling.{Grown, Rolling}
use Rattle.sha256.specs.declared.State.{State}
use Rattle.sha256.proofs.Rounds.{round_turn, extended-length, extended_prefix}

-- ---- a whole schedule

module _ (m : List ℕ) (long : length m ≡ 16) where
  pub first_length : (n : ℕ) → length (extended n m) ≡ n + 16
  unfolding extended
  first_length n = let e : n + 0 ≡ n = omega arith in (rw e at (extended-length n 0 m)) ∙ ap (λ (k : ℕ). n + k) long

  -- the words of the first n + 16, in the whole
  pub word_in : (n i : ℕ) → n ≤ 48 → i < n + 16 → get_or (extended 48 m) i 0 ≡ get_or (extended n m) i 0
  word_in n i h l =
      let e : 48 - n + n ≡ 48 = omega arith in
      rw e at (extended_prefix (48 - n) n i m (omega (arith, first_length n)))

  newest_word : (n : ℕ) → get_or (extended (n + 1) m) (n + 16) 0 ≡ next_word (extended n m) n
  unfolding extended
  newest_word n = rw (add-one n) (get_or_at (extended n m) (next_word (extended n m) n) [] 0 (n + 16) (first_length n))

  same_next : (n : ℕ) → n < 48 → next_word (extended n m) n ≡ next_word (extended 48 m) n
  unfolding next_word
  same_next n h =
      rw (
        word_in n (n + 14) (omega arith) (omega arith),
        word_in n (n + 9) (omega arith) (omega arith),
        word_in n (n + 1) (omega arith) (omega arith),
        word_in n n (omega arith) (omega arith),
      )

  pub extended_grown : Grown (extended 48 m)
  extended_grown n h = word_in (n + 1) (n + 16) (omega arith) (omega arith) ∙ newest_word n ∙ same_next n h

  pub rolling_start : (z : State) → Rolling (extended 48 m) z 0 m z
  unfolding rounds extended
  rolling_start z =
      record {
        long = long;
        have = λ j h. let e : (0 + j) % 16 ≡ j = omega arith in let f : 0 + j ≡ j = omega arith in rw (e, f) (sym (word_in 0 j (omega arith) (omega arith)));
        done = refl;
      }

-- ---- one round and one word more

module _ (x : List ℕ) (z : State) (grown : Grown x) (t : ℕ) (few : t < 48) (w : List ℕ) (s : State) (before : Rolling x z t w s) where
  first : get_or w (t % 16) 0 ≡ get_or x t 0
  first = let e : t + 0 ≡ t = omega arith in rw e at (before.have 0 (omega arith))

  module _ (v : ℕ) (word : v ≡ σ1 (get_or w ((t + 14) % 16) 0) ⊞ get_or w ((t + 9) % 16) 0 ⊞ σ0 (get_or w ((t + 1) % 16) 0) ⊞ get_or w (t % 16) 0) where
    newest : v ≡ get_or x (t + 16) 0
    unfolding next_word
    newest = word ∙ rw (before.have 14 (omega arith), before.have 9 (omega arith), before.have 1 (omega arith), first) (sym (grown t few))

    have_more : (j : ℕ) → j < 16 → get_or (set w (t % 16) v) ((t + 1 + j) % 16) 0 ≡ get_or x (t + 1 + j) 0
    have_more j h =
        by_bool (eqb j 15)
        (λ y. let last : j ≡ 15 = eqb-true j 15 y in
        let e : (t + 1 + j) % 16 ≡ t % 16 = omega arith in
        let f : t + 1 + j ≡ t + 16 = omega arith in
        rw (e, f) (get_or-set_same w (t % 16) v 0 (omega (arith, before.long)) ∙ newest))
        (λ y. let other : j ≡ 15 → ⊥ = eqb-false j 15 y in
        let f : t + 1 + j ≡ t + (j + 1) = omega arith in
        rw f (get_or-set_other w (t % 16) ((t + (j + 1)) % 16) v 0 (λ q. other (omega arith)) ∙ before.have (j + 1) (omega (arith, other))))

    pub rolling_turn : (r : State) → r ≡ one_round (get_or K t 0) (get_or w (t % 16) 0) s → Rolling x z (t + 1) (set w (t % 16) v) r
    rolling_turn r e =
        record {
          long = length-set w (t % 16) v ∙ before.long;
          have = have_more;
          done = round_turn x z t (t + 1) refl before.done (rw first at e);
        }

-- the same at the round t + i, for a t that 16 divides: the places are those of i
pub rolling_at : (x : List ℕ) (z : State) → Grown x → (t i : ℕ) → t + 16 ≤ 48 → t % 16 ≡ 0 → i < 16 → (w : List ℕ) (s : State)
    → Rolling x z (t + i) w s → (v : ℕ)
    → v ≡ σ1 (get_or w ((i + 14) % 16) 0) ⊞ get_or w ((i + 9) % 16) 0 ⊞ σ0 (get_or w ((i + 1) % 16) 0) ⊞ get_or w i 0
    → (r : State) → r ≡ one_round (get_or K (t + i) 0) (get_or w i 0) s → Rolling x z (t + (i + 1)) (set w i v) r
rolling_at x z grown t i few divides low w s before v word r e =
    let here : (t + i) % 16 ≡ i = omega arith in
    let one : (t + i + 1) % 16 ≡ (i + 1) % 16 = omega arith in
    let nine : (t + i + 9) % 16 ≡ (i + 9) % 16 = omega arith in
    let fourteen : (t + i + 14) % 16 ≡ (i + 14) % 16 = omega arith in
    let next : t + i + 1 ≡ t + (i + 1) = omega arith in
    rw (here, next) at (rolling_turn x z grown (t + i) (omega arith) w s before v (rw (fourteen, nine, one, here) word) r (rw here e))

-- The rounds of one lane, joined to those of FIPS 180-4.
use mathlib.Core.Path.{◌≡◌, refl, sym, ap, ap₂, ◌∙◌}
use mathlib.Core.List.{List, [], ◌∷◌, ◌++◌}
use Prim.Native.Nat.{ℕ, zero, suc, ◌+◌, ◌-◌, ◌≤◌, ◌<◌}
use native.Mathlib.Nat.{add-zero, zero-add, add-suc, add_assoc}
use native.Mathlib.Omega.{arith}
use native.Mathlib.Numerals.{add-one}
use lib.ListN.{length, get_or, take, set}
use lib.Seq.{take-suc-set}
use Rattle.sha256.specs.Constants.{K}
use Rattle.sha256.specs.Sha256.{word_at, words, extended, one_round, rounds}
use Rattle.sha256.specs.declared.State.{State}
use Rattle.event_ids.proofs.Midway.{Midway, midway_turn, midway_end}
use Rattle.event_ids.specs.Lanes.{schedule_at, block_at, state_at, Lane, lane_at, one_step, steps, rounds_from}
use Rattle.event_ids.proofs.Columns.{length-column}

-- t steps and n more
pub steps_join : (t n : ℕ) (z : Lane) → steps 0 (t + n) z ≡ steps t n (steps 0 t z)
unfolding steps
steps_join t zero z = ap (λ (k : ℕ). steps 0 k z) (add-zero t)
steps_join t (suc n) z = rw (add-suc t n, zero-add (t + n)) (ap (one_step (t + n)) (steps_join t n z))

-- n rounds from t on and m more
rounds_more : (t n m : ℕ) (w : List ℕ) (s : State) → rounds_from t (n + m) w s ≡ rounds_from (t + n) m w (rounds_from t n w s)
unfolding rounds_from
rounds_more t n zero w s = ap (λ (k : ℕ). rounds_from t k w s) (add-zero n)
rounds_more t n (suc m) w s =
    rw (add-suc n m, sym (add_assoc t n m)) (ap (one_round (get_or K (t + n + m) 0) (get_or w (t + n + m) 0)) (rounds_more t n m w s))

-- a turn of the loop over the rounds from one on
pub rounds_turn : (w : List ℕ) (z : State) (from t : ℕ) {s r : State} → from ≤ t → s ≡ rounds_from from (t - from) w z
    → r ≡ rounds_from t 4 w s → r ≡ rounds_from from (t + 4 - from) w z
rounds_turn w z from t h e f =
    let a : t + 4 - from ≡ t - from + 4 = omega arith in
    let b : from + (t - from) ≡ t = omega arith in
    rw a (f ∙ ap (rounds_from t 4 w) e ∙ sym (rw b at (rounds_more from (t - from) 4 w z)))

-- t rounds of FIPS 180-4 and n more
rounds_join : (t n : ℕ) (w : List ℕ) (z : State) → rounds (t + n) w z ≡ rounds_from t n w (rounds t w z)
unfolding rounds rounds_from
rounds_join t zero w z = ap (λ (k : ℕ). rounds k w z) (add-zero t)
rounds_join t (suc n) w z = rw (add-suc t n) (ap (one_round (get_or K (t + n) 0) (get_or w (t + n) 0)) (rounds_join t n w z))

-- t steps are t rounds, with t words of the schedule
midway_steps : (z : Lane) → length z.words ≡ 64 → (t : ℕ) → t ≤ 48
    → Midway (take 16 z.words) z.state t (steps 0 t z).words (steps 0 t z).state
unfolding steps one_step extended rounds
midway_steps z n zero h = record { long = n; have = refl; done = refl }
midway_steps z n (suc t) h =
    let before = midway_steps z n t (omega arith) in
    midway_turn (take 16 z.words) z.state t (suc t) (omega arith) (omega arith) before (rw (zero-add t) (refl, refl))

-- after 48 of them the schedule is whole
module _ (l : ℕ) (w w' x x' : List ℕ) (t : ℕ) (h : t ≡ 48) (e : lane_at l w' x' ≡ steps 0 t (lane_at l w x)) where
  whole : lane_at l w' x' ≡ steps 0 48 (lane_at l w x)
  whole = rw h at e

  end : ((steps 0 48 (lane_at l w x)).words ≡ extended 48 (block_at l w))
      × ((steps 0 48 (lane_at l w x)).state ≡ rounds 48 (steps 0 48 (lane_at l w x)).words (state_at l x))
  end = midway_end (block_at l w) (state_at l x) 48 refl (midway_steps (lane_at l w x) (length-column l 64 w) 48 (omega arith))

  pub steps-schedule : schedule_at l w' ≡ extended 48 (block_at l w)
  steps-schedule = ap (λ (z : Lane). z.words) whole ∙ end.0

  pub steps_state : state_at l x' ≡ rounds 48 (schedule_at l w') (state_at l x)
  steps_state =
      let same : schedule_at l w' ≡ (steps 0 48 (lane_at l w x)).words = ap (λ (z : Lane). z.words) whole in
      ap (λ (z : Lane). z.state) whole ∙ rw same end.1

-- the first rounds and the last rounds
pub rounds-whole : (m w : List ℕ) (s : State) {q r : State} → w ≡ extended 48 m → q ≡ rounds 48 w s → r ≡ rounds_from 48 16 w q
    → r ≡ rounds 64 (extended 48 m) s
rounds-whole m w s e f g =
    let join : rounds 64 w s ≡ rounds_from 48 16 w (rounds 48 w s) = rounds_join 48 16 w s in
    cc

-- the rounds from the first on
pub rounds-all : (w : List ℕ) (s : State) {r : State} → r ≡ rounds_from 0 64 w s → r ≡ rounds 64 w s
unfolding rounds
rounds-all w s e = e ∙ sym (rounds_join 0 64 w s)

-- one more word of a block
words_turn : (b w : List ℕ) (i v : ℕ) → i < length w → take i w ≡ words i b → v ≡ word_at b i → take (i + 1) (set w i v) ≡ words (i + 1) b
unfolding words
words_turn b w i v h e f = rw add-one (take-suc-set w i v h ∙ ap₂ (λ (x : List ℕ) (y : ℕ). x ++ (y ∷ [])) e f)

-- the same, in lane l
pub load_turn : (block w w' : List ℕ) (l j : ℕ) → j < 16 → take j (schedule_at l w) ≡ words j block
    → schedule_at l w' ≡ set (schedule_at l w) j (word_at block j) → take (j + 1) (schedule_at l w') ≡ words (j + 1) block
load_turn block w w' l j h e f =
    ap (take (j + 1)) f ∙ words_turn block (schedule_at l w) j (word_at block j) (omega (arith, length-column l 64 w)) e refl

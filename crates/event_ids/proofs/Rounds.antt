-- Rounds in one lane.
use mathlib.Core.Path.{◌≡◌, ap, ap₂, ◌∙◌}
use mathlib.Core.List.{List}
use Prim.Native.Nat.{ℕ, ◌+◌}
use native.Mathlib.Numerals.{add-one}
use lib.ListN.{get_or}
use Rattle.sha256.specs.Constants.{K}
use Rattle.sha256.specs.Sha256.{one_round}
use Rattle.sha256.specs.declared.State.{State}
use Rattle.event_ids.specs.Lanes.{Lane, with_word, one_step, steps, rounds_from}

-- one round more, with its word
pub step_more : (t j : ℕ) (x z : Lane) {w : List ℕ} {s : State} → x ≡ steps t j z → w ≡ with_word (t + j) x.words
    → s ≡ one_round (get_or K (t + j) 0) (get_or x.words (t + j) 0) x.state → ◌≡◌ {A = Lane} (record { words = w; state = s }) (steps t (j + 1) z)
unfolding steps one_step
step_more t j x z e f g =
    rw add-one (ap₂ (λ (w : List ℕ) (s : State). record { words = w; state = s }) f g ∙ ap (one_step (t + j)) e)

-- one round more
pub round_more : (t j : ℕ) (w : List ℕ) (z : State) {s r : State} → s ≡ rounds_from t j w z
    → r ≡ one_round (get_or K (t + j) 0) (get_or w (t + j) 0) s → r ≡ rounds_from t (j + 1) w z
unfolding rounds_from
round_more t j w z e f = rw add-one (f ∙ ap (one_round (get_or K (t + j) 0) (get_or w (t + j) 0)) e)

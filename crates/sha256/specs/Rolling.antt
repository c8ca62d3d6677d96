-- The rounds with some words of the schedule at hand: where there are n, the word k stands at k % n. Of a rolling schedule there are 16.
use Rattle.std.specs.Prelude.{◌≡◌, ℕ, ◌+◌, ◌%◌, ◌<◌, List, length, slice_index}
use Rattle.sha256.specs.Sha256.{next_word, rounds}
use Rattle.sha256.specs.declared.State.{State}

-- x grows from its first 16 words as a schedule does
abbrev pub Grown : List ℕ → Type 0
Grown x = (n : ℕ) → n < 48 → slice_index x (n + 16) ≡ next_word x n

-- of the schedule x, the n words w have the m words from t on
abbrev pub AtHand : ℕ → List ℕ → ℕ → ℕ → List ℕ → Type 0
AtHand n x t m w = (j : ℕ) → j < m → slice_index w ((t + j) % n) ≡ slice_index x (t + j)

-- s is what t rounds make of z, and w has the words t to t + 15
pub record Rolling (x : List ℕ) (z : State) (t : ℕ) (w : List ℕ) (s : State) : Type 0 where
  pub long : length w ≡ 16
  pub have : (j : ℕ) → j < 16 → slice_index w ((t + j) % 16) ≡ slice_index x (t + j)
  pub done : s ≡ rounds t x z

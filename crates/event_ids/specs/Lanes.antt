-- Four computations of SHA-256 side by side: of an array of words, the word j of lane l stands at l + j * 4.
use Rattle.std.specs.Prelude.{List, [], ◌∷◌, ◌++◌, ◌≡◌, ℕ, zero, suc, ◌+◌, ◌*◌, ◌/◌, ◌<◌, get_or, set, take}
use Rattle.sha256.specs.Constants.{K}
use Rattle.octets.specs.Octets.{part}
use Rattle.sha256.specs.Sha256.{padded, message_block, next_word, one_round}
use Rattle.sha256.specs.declared.State.{State}

-- the first n words of lane l
unfoldable pub column : ℕ → ℕ → List ℕ → List ℕ
column l zero w = []
column l (suc n) w = column l n w ++ (get_or w (l + n * 4) 0 ∷ [])

-- the state that eight words are, and the state of lane l
abbrev pub state_of : List ℕ → State
state_of x =
    record {
      a = get_or x 0 0;
      b = get_or x 1 0;
      c = get_or x 2 0;
      d = get_or x 3 0;
      e = get_or x 4 0;
      f = get_or x 5 0;
      g = get_or x 6 0;
      h = get_or x 7 0;
    }

unfoldable pub state_at : ℕ → List ℕ → State
state_at l x = state_of (column l 8 x)

-- the schedule of lane l, and its first 16 words, those of the block
abbrev pub schedule_at : ℕ → List ℕ → List ℕ
schedule_at l w = column l 64 w

abbrev pub block_at : ℕ → List ℕ → List ℕ
block_at l w = take 16 (schedule_at l w)

-- the schedule and the working variables of a lane
pub record Lane : Type 0 where
  pub words : List ℕ
  pub state : State

abbrev pub lane_at : ℕ → List ℕ → List ℕ → Lane
lane_at l w x = record { words = schedule_at l w; state = state_at l x }

-- a schedule with its word t + 16
abbrev pub with_word : ℕ → List ℕ → List ℕ
with_word t w = set w (t + 16) (next_word w t)

-- the round t with the word t + 16 of the schedule, and n of these from t on
unfoldable pub one_step : ℕ → Lane → Lane
one_step t x = record { words = with_word t x.words; state = one_round (get_or K t 0) (get_or x.words t 0) x.state }

unfoldable pub steps : ℕ → ℕ → Lane → Lane
steps t zero x = x
steps t (suc n) x = one_step (t + n) (steps t n x)

-- n rounds from t on, with the schedule w
unfoldable pub rounds_from : ℕ → ℕ → List ℕ → State → State
rounds_from t zero w s = s
rounds_from t (suc n) w s = one_round (get_or K (t + n) 0) (get_or w (t + n) 0) (rounds_from t n w s)

-- of four events of 192 bytes, one behind another, that of lane l, the block b of it, and the block b of it with its padding
abbrev pub event_at : ℕ → List ℕ → List ℕ
event_at l events = part events (l * 192) 192

abbrev pub block_of : ℕ → ℕ → List ℕ → List ℕ
block_of l b events = part events (l * 192 + b * 64) 64

abbrev pub padded_block : ℕ → ℕ → List ℕ → List ℕ
padded_block l b events = message_block (padded (event_at l events) 1536) b

-- the 64 words of k, each four times, in k4
abbrev pub FourTimes : List ℕ → List ℕ → Type 0
FourTimes k k4 = (i : ℕ) → i < 256 → get_or k4 i 0 ≡ get_or k (i / 4) 0

-- in each of the four lanes
abbrev pub EachLane : (ℕ → Type 0) → Type 0
EachLane P = (l : ℕ) → l < 4 → P l

-- of an array of schedules, or of states, only lane l was written
abbrev pub OtherSchedules : ℕ → List ℕ → List ℕ → Type 0
OtherSchedules l w w' = EachLane (λ k. ((k ≡ l → ⊥) → schedule_at k w' ≡ schedule_at k w))

abbrev pub OtherStates : ℕ → List ℕ → List ℕ → Type 0
OtherStates l x x' = EachLane (λ k. ((k ≡ l → ⊥) → state_at k x' ≡ state_at k x))

-- lane l went one step: its schedule has the word t + 16, and the round t leads from the state s to r
pub record Stepped (l t : ℕ) (w w' : List ℕ) (s r : State) : Type 0 where
  pub word : schedule_at l w' ≡ with_word t (schedule_at l w)
  pub others : OtherSchedules l w w'
  pub round : r ≡ one_round (get_or K t 0) (get_or (schedule_at l w) t 0) s

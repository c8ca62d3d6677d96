-- One turn of each loop of the compression function, as a law of lists.
-- Assumes nothing.
use Rattle.std.proofs.Common.{◌≡◌, ℕ, zero, suc, ◌+◌, ◌-◌, ◌%◌, ◌<◌, ◌≤◌, List, length, get_or, refl, ap, ◌∙◌, suc-add, zero-add, add-one, arith, length-append}
use lib.ListN.{get_or-append}
use Rattle.sha256.specs.Sha256.{extended, one_round, rounds}
use Rattle.sha256.specs.Constants.{K}
use Rattle.sha256.specs.Rolling.{AtHand}
use Rattle.sha256.specs.declared.State.{State}

-- one more round
pub round_turn : (w : List ℕ) (z : State) (t u : ℕ) {s r : State} → u ≡ t + 1 → s ≡ rounds t w z
    → r ≡ one_round (get_or K t 0) (get_or w t 0) s → r ≡ rounds u w z
unfolding rounds
round_turn w z t u h e f = rw (h, add-one) (f ∙ ap (one_round (get_or K t 0) (get_or w t 0)) e)

-- the same, by the words at hand
pub held_turn : (n : ℕ) (x w : List ℕ) (z : State) (t m j u v : ℕ) {s r : State} → AtHand n x t m w → j < m → u ≡ t + j → v ≡ t + j + 1
    → s ≡ rounds u x z → r ≡ one_round (get_or K u 0) (get_or w (u % n) 0) s → r ≡ rounds v x z
held_turn n x w z t m j u v held low eu ev es er =
    let word : get_or w (u % n) 0 ≡ get_or x u 0 = rw eu (held j low) in
    round_turn x z u v (omega arith) es (rw word at er)

-- words at hand are so for later rounds
pub at_hand_later : (n : ℕ) (x w : List ℕ) (from m t k : ℕ) → from ≤ t → t + k ≤ from + m → AtHand n x from m w → AtHand n x t k w
at_hand_later n x w from m t k a b held j h =
    let e : from + (t - from + j) ≡ t + j = omega arith in
    rw e at (held (t - from + j) (omega arith))

-- a whole schedule is at hand from the first round on
pub all_rounds : (w : List ℕ) (s r : State)
    → ((x : List ℕ) (z : State) → AtHand 64 x 0 64 w → s ≡ rounds 0 x z → r ≡ rounds 64 x z) → r ≡ rounds 64 w s
unfolding rounds
all_rounds w s r h = h w s (λ j l. let e : (0 + j) % 64 ≡ 0 + j = omega arith in rw e refl) refl

-- ---- the schedule

pub extended-length : (n t : ℕ) (m : List ℕ) → length (extended (n + t) m) ≡ n + length (extended t m)
unfolding extended
extended-length zero t m = simp zero-add
extended-length (suc n) t m =
    rw (suc-add n t) (length-append (extended (n + t) m) _ ∙ simp (extended-length n t m) (omega arith))

-- a longer schedule begins with the shorter one
pub extended_prefix : (n t i : ℕ) (m : List ℕ) → i < length (extended t m)
    → get_or (extended (n + t) m) i 0 ≡ get_or (extended t m) i 0
unfolding extended
extended_prefix zero t i m h = simp zero-add
extended_prefix (suc n) t i m h =
    let k : i < length (extended (n + t) m) = omega (arith, extended-length n t m) in
    rw suc-add (get_or-append (extended (n + t) m) _ 0 i k ∙ extended_prefix n t i m h)

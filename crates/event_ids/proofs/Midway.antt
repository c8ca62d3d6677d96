-- Rounds and schedule side by side, with the whole schedule at hand.
use mathlib.Core.Path.{◌≡◌, refl, sym, ap, ap₂, ◌∙◌}
use mathlib.Core.List.{List, [], ◌∷◌, ◌++◌}
use Prim.Native.Nat.{ℕ, suc, ◌+◌, ◌-◌, ◌<◌}
use native.Mathlib.Numerals.{add-one}
use native.Mathlib.Omega.{arith}
use lib.ListN.{length, get_or, take, set, length-set}
use lib.Seq.{take-suc-set, get_or-take, length-take-le, take_all}
use Rattle.sha256.specs.Constants.{K}
use Rattle.sha256.specs.Sha256.{next_word, extended, one_round, rounds}
use Rattle.sha256.specs.declared.State.{State}
use Rattle.sha256.proofs.Rounds.{round_turn, extended_prefix}

-- the next word reads only the words before it
next-take : (w : List ℕ) (t : ℕ) → next_word w t ≡ next_word (take (t + 16) w) t
unfolding next_word
next-take w t =
    let h14 : t + 14 < t + 16 = omega arith in
    let h9 : t + 9 < t + 16 = omega arith in
    let h1 : t + 1 < t + 16 = omega arith in
    let h0 : t < t + 16 = omega arith in
    simp get_or-take

-- one more word of the schedule
extended_turn : (m w : List ℕ) (t : ℕ) → t + 16 < length w → take (t + 16) w ≡ extended t m
    → take (t + 1 + 16) (set w (t + 16) (next_word w t)) ≡ extended (t + 1) m
unfolding extended
extended_turn m w t h e =
    let v : next_word w t ≡ next_word (extended t m) t = next-take w t ∙ ap (λ (x : List ℕ). next_word x t) e in
    let n : t + 1 + 16 ≡ suc (t + 16) = omega arith in
    rw (n, add-one) (take-suc-set w (t + 16) (next_word w t) h ∙ ap₂ (λ (x : List ℕ) (y : ℕ). x ++ (y ∷ [])) e v)

-- s is what t rounds make of z, and w begins with t + 16 words of the schedule that starts with m
pub record Midway (m : List ℕ) (z : State) (t : ℕ) (w : List ℕ) (s : State) : Type 0 where
  pub long : length w ≡ 64
  pub have : take (t + 16) w ≡ extended t m
  pub done : s ≡ rounds t (extended 48 m) z

module _ (m : List ℕ) (z : State) where
  pub midway_turn : (t u : ℕ) {w v : List ℕ} {s r : State} → t < 48 → u ≡ t + 1 → Midway m z t w s
      → (v ≡ set w (t + 16) (next_word w t)) × (r ≡ one_round (get_or K t 0) (get_or w t 0) s) → Midway m z u v r
  midway_turn t u {w} {v} {s} {r} h e p q =
      let n : length (extended t m) ≡ t + 16 =
      ap length (sym p.have) ∙ length-take-le (t + 16) w (omega (arith, p.long)) in
      let k : 48 - t + t ≡ 48 = omega arith in
      let a : get_or (extended 48 m) t 0 ≡ get_or (extended t m) t 0 =
      rw k at (extended_prefix (48 - t) t t m (omega arith)) in
      let b : get_or w t 0 ≡ get_or (extended t m) t 0 =
      sym (get_or-take (t + 16) w t 0 (omega arith)) ∙ ap (λ (l : List ℕ). get_or l t 0) p.have in
      rw (e, q.0)
      (record {
        long = simp length-set p.long;
        have = extended_turn m w t (omega (arith, p.long)) p.have;
        done = round_turn (extended 48 m) z t (t + 1) refl p.done (rw (b ∙ sym a) at q.1);
      })

  -- after 48 of them the schedule is whole
  pub midway_end : (t : ℕ) {w : List ℕ} {s : State} → t ≡ 48 → Midway m z t w s
      → (w ≡ extended 48 m) × (s ≡ rounds 48 w z)
  midway_end t {w} {s} e p =
      let whole : w ≡ extended 48 m = sym (take_all 64 w (omega (arith, p.long))) ∙ (rw e at p.have) in
      (whole, rw whole (rw e at p.done))

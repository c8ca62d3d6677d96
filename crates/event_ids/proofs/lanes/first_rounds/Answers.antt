use mathlib.Core.Path.{◌≡◌, refl, sym, ap, ◌∙◌}
use native.Mathlib.Omega.{arith}
use Rattle.event_ids.specs.Lanes.{lane_at, steps}
use Rattle.event_ids.proofs.Compression.{steps_join, steps-schedule, steps_state}
use borrow.Author.Rules.{rules}
use Rattle.event_ids.proofs.lanes.first_rounds.Goals as goal

pub loop-t-init : goal.loop-t-init
unfolding steps
loop-t-init c = (search rules, refl, λ l h. refl)

pub loop-t-preserved : goal.loop-t-preserved
loop-t-preserved c = let a = c.args in
    let t = c.loop-t.t in
    let e = c.lanes_rounds_and_words.ensures in (
      omega arith,
      omega arith,
      λ l h. e l h ∙ ap (steps t 4) (c.loop-t.invariant.2 l h) ∙ sym (steps_join t 4 (lane_at l a.w.now.words a.st.now.words)),
    )

pub returns : goal.returns
returns c = let inv = c.loop-t.invariant in
    let w₀ = c.args.w.now.words in
    let w = c.loop-t.w.words in
    let x₀ = c.args.st.now.words in
    let x = c.loop-t.st.words in
    let t = c.loop-t.t in
    let end : t ≡ 48 = omega arith in
    record { schedules = (λ l h. steps-schedule l w₀ w x₀ x t end (inv.2 l h)); states = (λ l h. steps_state l w₀ w x₀ x t end (inv.2 l h)) }

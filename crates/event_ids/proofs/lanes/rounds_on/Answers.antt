use mathlib.Core.Path.{◌≡◌, refl}
use Prim.Native.Nat.{◌-◌}
use native.Mathlib.Omega.{arith}
use Rattle.event_ids.specs.Lanes.{state_at, rounds_from}
use Rattle.event_ids.proofs.Compression.{rounds_turn}
use borrow.Author.Rules.{rules}
use Rattle.event_ids.proofs.lanes.rounds_on.Goals as goal

pub loop-t-init : goal.loop-t-init
unfolding rounds_from
loop-t-init g c = let none : c.args.from - c.args.from ≡ 0 = omega arith in
    (search rules, c.requires.0, c.requires.1, λ l h. rw none refl)

pub loop-t-preserved : goal.loop-t-preserved
loop-t-preserved g c = let a = c.args in
    let inv = c.loop-t.invariant in (
      omega arith,
      omega arith,
      omega arith,
      λ l h. let turn = rounds_turn (g.W.Words.of_lane a.w.now l) (state_at l a.st.now.words) a.from c.loop-t.t in
          turn inv.0 (inv.3 l h) (c.lanes_rounds.ensures l h),
    )

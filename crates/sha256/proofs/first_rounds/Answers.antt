use Rattle.std.proofs.Common.{◌≡◌, ◌+◌, refl, length, arith, rules}
use Rattle.sha256.proofs.Rolling.{extended_grown, rolling_start}
use Rattle.sha256.proofs.first_rounds.Goals as goal

pub loop-t-init : goal.loop-t-init
loop-t-init c = (omega arith, refl, rolling_start _ (search rules) _)

pub loop-t-preserved : goal.loop-t-preserved
loop-t-preserved c =
    let long : length c.args.w.now ≡ 16 = search rules in
    let grown = extended_grown c.args.w.now long in
    let none : c.loop-t.t + 0 ≡ c.loop-t.t = omega arith in
    let four = c.four_rounds_and_words-s.ensures _ _ grown (rw none c.loop-t.invariant.2) in
    let eight = c.four_rounds_and_words-s-in-loop-t.ensures _ _ grown four in
    let twelve = c.four_rounds_and_words-s-in-loop-t-2.ensures _ _ grown eight in
    (omega arith, omega arith, c.four_rounds_and_words-s-in-loop-t-3.ensures _ _ grown twelve)

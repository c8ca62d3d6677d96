use Rattle.std.proofs.Common.{◌≡◌, ◌+◌, ◌*◌, ◌^◌, ◌<◌, ◌≤◌, length, get_or, ◌∙◌, sym, arith, rules, take_all}
use Rattle.sha256.proofs.Bytes.{digest_words, digest_by_words, word_turn}
use Rattle.sha256.proofs.to_bytes.Goals as goal

pub loop-i-preserved : goal.loop-i-preserved
loop-i-preserved c = let inv = c.loop-i.invariant in
    let i = c.loop-i.i in
    let ws = digest_words c.args.s in
    let low : i < length ws = omega arith in
    let small : get_or ws i 0 < 2 ^ 32 = search rules in
    let room : (i + 1) * 4 ≤ length c.loop-i.out = omega arith in
    (c.paste.auto.dst ∙ inv.0, rw c.paste.ensures (word_turn ws c.loop-i.out _ i low small room c.to_be_bytes.ensures inv.1))

pub returns : goal.returns
returns c = let e : c.loop-i.i ≡ 8 = omega arith in
    let long = c.loop-i.invariant.0 in
    sym (take_all 32 c.loop-i.out (omega (arith, long))) ∙ (rw e at c.loop-i.invariant.1) ∙ digest_by_words c.args.s

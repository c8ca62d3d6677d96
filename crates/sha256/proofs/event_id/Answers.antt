use Rattle.std.proofs.Common.{ℕ, List, ap, ◌∙◌, arith}
use Rattle.sha256.specs.Sha256.{rounds}
use Rattle.sha256.proofs.Rounds.{all_rounds}
use Rattle.sha256.proofs.Event.{event}
use Rattle.sha256.proofs.event_id.Goals as goal

pub returns : goal.returns
returns c =
    let fourth = all_rounds _ _ _ c.rounds_on.ensures ∙ ap (λ (w : List ℕ). rounds 64 w c.compress_third-s3.result) c.padding_schedule.ensures in
    c.to_bytes.ensures
    ∙ event c.args.event.now c.as_chunks.result.0.now (omega arith) c.as_chunks.ensures.front c.initial.ensures c.compress-s1.ensures
    c.compress-s2.ensures c.compress_third-s3.ensures fourth c.add_states.ensures

use mathlib.Core.Path.{◌∙◌}
use Rattle.sha256.specs.Sha256.{next_word}
use Rattle.sha256.specs.FourthBlock.{padding_block, fourth_block, padding_schedule, padding_word}
use Rattle.sha256.proofs.Schedule.{schedule-length, schedule_first, schedule-next}
use Rattle.claims.proofs.fourth_schedule.Goals as goal

pub returns : goal.returns
unfolding padding_schedule next_word
returns c m n = record {
  long = schedule-length padding_block;
  first = λ t h. padding_word m t n ∙ schedule_first (fourth_block m) t h;
  next = schedule-next padding_block;
}

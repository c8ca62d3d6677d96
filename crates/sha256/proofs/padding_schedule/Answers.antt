use Rattle.std.proofs.Common.{refl}
use Rattle.sha256.specs.Sha256.{word_bytes, length_bytes, padded, words, next_word, extended}
use Rattle.sha256.specs.FourthBlock.{padding_schedule}
use Rattle.sha256.proofs.padding_schedule.Goals as goal

-- `sha256::padding_schedule` meets its contract: the whole table is the schedule, by computation.
-- Assumes nothing.

pub returns : goal.returns
unfolding padding_schedule word_bytes length_bytes padded words next_word extended
returns c = refl

-- F-3: "An event of 192 bytes fills three SHA-256 blocks, so the fourth holds padding and length only and is the same for every
-- event. Its 64 schedule words become a constant table, each shown to be FIPS 180-4's". That the table is `padding_schedule` is the
-- contract of `sha256::padding_schedule`.
use Rattle.std.specs.Prelude.{◌≡◌, List, ℕ, ◌+◌, ◌<◌, length, get_or}
use Rattle.lists.specs.Bytes.{Bytes}
use Rattle.sha256.specs.Words.{◌⊞◌, σ0, σ1}
use Rattle.sha256.specs.Sha256.{word_at}
use Rattle.sha256.specs.FourthBlock.{fourth_block, padding_schedule}

-- FIPS 180-4, 6.2.2, step 1: w has the 64 words of the schedule of the block b
pub record Scheduled (b w : List ℕ) : Type 0 where
  pub long : length w ≡ 64
  -- "M t" for t from 0 to 15
  pub first : (t : ℕ) → t < 16 → get_or w t 0 ≡ word_at b t
  -- "σ1(W t-2) + W t-7 + σ0(W t-15) + W t-16" for t from 16 to 63, here at t + 16
  pub next : (t : ℕ) → t < 48 → get_or w (t + 16) 0 ≡ σ1 (get_or w (t + 14) 0) ⊞ get_or w (t + 9) 0 ⊞ σ0 (get_or w (t + 1) 0) ⊞ get_or w t 0

-- for every message of 192 bytes, padded, the table has the schedule of the fourth block
abbrev pub FourthSchedule : Type 0
FourthSchedule = (m : Bytes) → length m ≡ 192 → Scheduled (fourth_block m) padding_schedule

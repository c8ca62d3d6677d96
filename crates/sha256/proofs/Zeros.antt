-- A block of zeros.
-- Assumes nothing.
use Rattle.std.proofs.Common.{◌≡◌, ℕ, true, List, length, replicate, refl}
use Rattle.octets.specs.Octets.{all_zero}
use Rattle.octets.specs.ZeroLaws.{all_zeros}
use Rattle.sha256.specs.Sha256.{words, next_word, extended, schedule}

-- its schedule is zeros too
pub zero_block-schedule : replicate 64 0 ≡ schedule (replicate 64 0)
unfolding words next_word extended
zero_block-schedule = refl

pub zero_schedule : (b : List ℕ) → length b ≡ 64 → all_zero b ≡ true → replicate 64 0 ≡ schedule b
zero_schedule b n e =
    let zeros : b ≡ replicate 64 0 = rw n at (all_zeros b e) in
    rw zeros zero_block-schedule

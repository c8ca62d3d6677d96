-- Document 02, F-3: the fourth block of a message of 192 bytes, and its schedule.
use Rattle.std.specs.Prelude.{◌≡◌, ℕ, ◌*◌, List, [], ◌∷◌, ◌++◌, length, take, replicate, slice_index, refl}
use Rattle.std.proofs.Common.{sym, ap, ◌∙◌, append_assoc, arith, take_all, drop_at}
use Rattle.sha256.specs.Sha256.{word_bytes, length_bytes, padded, message_block, schedule}

-- "An event of 192 bytes fills three SHA-256 blocks, so the fourth holds padding and length only": the byte 0x80, zeros, and the
-- length, 1536 bits
abbrev pub padding_block : List ℕ
padding_block = padded [] 1536

pub padding_length : length padding_block ≡ 64
unfolding padded length_bytes word_bytes
padding_length = refl

pub padded-event : (m : List ℕ) → length m ≡ 192 → padded m 1536 ≡ m ++ padding_block
unfolding padded
padded-event m n = rw n (append_assoc m (0x80 ∷ replicate 55 0) (length_bytes 1536))

-- "and is the same for every event"
abbrev pub fourth_block : List ℕ → List ℕ
fourth_block m = message_block (padded m (length m * 8)) 3

pub fourth_block_lem : (m : List ℕ) → length m ≡ 192 → fourth_block m ≡ padding_block
fourth_block_lem m n =
    rw n
    (ap (λ (p : List ℕ). message_block p 3) (padded-event m n)
    ∙ ap (take 64) (drop_at m padding_block 192 n)
    ∙ take_all 64 padding_block (omega (arith, padding_length)))

-- "Its 64 schedule words become a constant table": the table of src/, given out by `padding_schedule`
unfoldable pub padding_schedule : List ℕ
padding_schedule = schedule padding_block

-- "each shown to be FIPS 180-4's": entry t is the word t of the schedule (6.2.2, step 1) of the fourth block, for every message of
-- 192 bytes
pub padding_word : (m : List ℕ) (t : ℕ) → length m ≡ 192 → slice_index padding_schedule t ≡ slice_index (schedule (fourth_block m)) t
unfolding padding_schedule
padding_word m t n = ap (λ (b : List ℕ). slice_index (schedule b) t) (sym (fourth_block_lem m n))

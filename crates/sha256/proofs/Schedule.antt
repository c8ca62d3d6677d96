-- The words of a block's schedule, as 6.2.2, step 1, has them.
-- Assumes nothing.
use Rattle.std.proofs.Common.{◌≡◌, ℕ, suc, ◌<◌, List, [], ◌∷◌, ◌++◌, length, get_or, refl, ◌∙◌, arith}
use Rattle.lists.specs.Tables.{made_at}
use Rattle.sha256.specs.Sha256.{word_at, words, extended, schedule}
use Rattle.sha256.specs.Rolling.{Grown}
use Rattle.sha256.proofs.Rolling.{first_length, word_in, extended_grown}

module _ (b : List ℕ) where
  more : (n : ℕ) → words (suc n) b ≡ words n b ++ (word_at b n ∷ [])
  unfolding words
  more n = refl

  long : length (words 16 b) ≡ 16
  unfolding words
  long = refl

  pub schedule-length : length (schedule b) ≡ 64
  schedule-length = first_length (words 16 b) long 48

  -- the first 16 words are the block's, and each later one comes from four before it
  pub schedule_first : (t : ℕ) → t < 16 → get_or (schedule b) t 0 ≡ word_at b t
  unfolding extended
  schedule_first t h = word_in (words 16 b) long 0 t (omega arith) (omega arith) ∙ made_at (word_at b) (λ n. words n b) (unfold words in refl) more 16 t h

  pub schedule-next : Grown (schedule b)
  schedule-next = extended_grown (words 16 b) long

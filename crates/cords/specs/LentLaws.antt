-- What check 12 passes: exactly the strings of 512 bytes whose entries are equal both ways and 0 for unlike families.
-- The laws on these words stand in proofs/LentLaws.
use Rattle.std.specs.Prelude.{ℕ, ◌<◌, ◌≡◌, Bool, length}
use Rattle.lists.specs.Bytes.{Bytes}
use Rattle.cords.specs.Cords.{family}
use Rattle.cords.specs.Lent.{lent_entry, pair_good, all_below}

pub record GoodTable (table : Bytes) : Type 0 where
  pub long : length table ≡ 512
  pub mirrored : (a b : ℕ) → a < 16 → b < 16 → lent_entry table a b ≡ lent_entry table b a
  pub apart : (a b : ℕ) → a < 16 → b < 16 → (family a ≡ family b → ⊥) → lent_entry table a b ≡ 0

-- the entries of a kind with each kind below it
abbrev pub row_good : Bytes → ℕ → Bool
row_good table a = all_below (λ b. pair_good table a b) a

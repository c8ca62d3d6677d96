-- Check 12, computed: three tables that pass it, and one or more for each way to fail.
use Rattle.std.specs.Prelude.{ℕ, ◌*◌, ◌+◌, ◌≡◌, refl, true, not, List, [], ◌∷◌, ◌++◌, replicate, set, take}
use Rattle.lists.specs.Bytes.{Bytes}
use Rattle.lists.specs.Tests.{all_of}
use Rattle.cords.specs.Cords.{entry_of}
use Rattle.cords.specs.Lent.{lent_entry, pair_good, all_below, table_good}
use Rattle.cords.specs.DocumentTable.{length_bytes, ruled_lengths, document_table}

-- a table with other bytes at an entry
abbrev with : ℕ → ℕ → ℕ → ℕ → Bytes → Bytes
with a b high low table = set (set table (2 * (16 * a + b)) high) (2 * (16 * a + b) + 1) low

abbrev zeros : Bytes
zeros = replicate 512 0

-- document 01's table; one that does not follow the smaller grade: 512 m for kinds 0 and 1, 35 m and 55 m for each with its own; all zeros
abbrev pub good : List Bytes
good = document_table ∷ with 0 1 2 0 (with 1 0 2 0 document_table) ∷ zeros ∷ []

-- 511 and 513 bytes, and none; an entry unlike its mirror, in the low and in the high byte; 1 between unlike families, both ways and one way
abbrev pub bad : List Bytes
bad =
    take 511 document_table
    ∷ (document_table ++ (0 ∷ []))
    ∷ []
    ∷ with 0 1 0 36 document_table
    ∷ with 1 0 1 35 document_table
    ∷ with 3 4 0 1 (with 4 3 0 1 document_table)
    ∷ with 3 4 0 1 zeros
    ∷ []

pub good_pass : all_of table_good good ≡ true
unfolding table_good pair_good all_below lent_entry document_table length_bytes ruled_lengths entry_of
good_pass = refl

pub bad_fail : all_of (λ t. not (table_good t)) bad ≡ true
unfolding table_good pair_good all_below lent_entry document_table length_bytes ruled_lengths entry_of
bad_fail = refl

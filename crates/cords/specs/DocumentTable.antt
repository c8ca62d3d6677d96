-- Document 01's table as it is lent: 512 bytes, made by its rule. It passes check 12, and its entries are `cord_limit`.
use Rattle.std.specs.Prelude.{ℕ, zero, suc, ◌+◌, ◌*◌, ◌/◌, ◌%◌, ◌<◌, ◌≡◌, refl, true, ◌&&◌, cond, List, [], ◌∷◌, ◌++◌, ltb, get_or}
use Rattle.std.proofs.Common.{arith, add-one, ap₂, ◌∙◌, ltb-true}
use Rattle.std.proofs.Math.Path.{fun_ext}
use Rattle.lists.specs.Cases.{by_bool, and→}
use Rattle.lists.specs.Bytes.{Bytes}
use Rattle.lists.specs.Tables.{made_at}
use Rattle.octets.specs.Octets.{be16}
use Rattle.cords.specs.Cords.{limits, entry_of, cord_limit}
use Rattle.cords.specs.Lent.{lent_entry, pair_good, all_below, table_good}

-- lengths as bytes: "two bytes each, big-endian"
unfoldable pub length_bytes : List ℕ → Bytes
length_bytes [] = []
length_bytes (x ∷ xs) = x / 256 ∷ x % 256 ∷ length_bytes xs

-- the first n entries by document 01's rule
unfoldable pub ruled_lengths : ℕ → List ℕ
ruled_lengths zero = []
ruled_lengths (suc n) = ruled_lengths n ++ (entry_of limits (n / 16) (n % 16) ∷ [])

unfoldable pub document_table : Bytes
document_table = length_bytes (ruled_lengths 256)

-- what is read at an entry is the length written there
pub read_again : (xs : List ℕ) (k : ℕ) → be16 (length_bytes xs) (2 * k) ≡ get_or xs k 0
unfolding length_bytes
read_again [] k = refl
read_again (x ∷ xs) zero = omega arith
read_again (x ∷ xs) (suc k) =
    let two : 2 * suc k ≡ suc (suc (2 * k)) = omega arith in
    rw (two, add-one) (rw add-one at (read_again xs k))

pub document_entry : (a b : ℕ) → lent_entry document_table a b ≡ cord_limit a b
unfolding lent_entry document_table cord_limit ruled_lengths
document_entry a b = by_bool (ltb a 16 && ltb b 16) inside (λ f. rw f)
  where
    ruled : a < 16 → b < 16 → get_or (ruled_lengths 256) (16 * a + b) 0 ≡ entry_of limits a b
    ruled ha hb =
        let row : (16 * a + b) / 16 ≡ a = omega arith in
        let column : (16 * a + b) % 16 ≡ b = omega arith in
        made_at (λ k. entry_of limits (k / 16) (k % 16)) ruled_lengths refl (λ n. refl) 256 (16 * a + b) (omega arith)
        ∙ ap₂ (entry_of limits) row column

    inside : (ltb a 16 && ltb b 16) ≡ true
        → cond (ltb a 16 && ltb b 16) (be16 (length_bytes (ruled_lengths 256)) (2 * (16 * a + b))) 0
        ≡ cond (ltb a 16 && ltb b 16) (entry_of limits a b) 0
    inside t =
        let h = and→ (ltb a 16) (ltb b 16) t in
        rw t (read_again (ruled_lengths 256) (16 * a + b) ∙ ruled (ltb-true a 16 h.0) (ltb-true b 16 h.1))

-- so what is said by the one is said by the other
pub document_entries : lent_entry document_table ≡ cord_limit
document_entries = fun_ext (λ a. fun_ext (λ b. document_entry a b))

pub document_good : table_good document_table ≡ true
unfolding table_good pair_good all_below lent_entry document_table length_bytes ruled_lengths entry_of
document_good = refl

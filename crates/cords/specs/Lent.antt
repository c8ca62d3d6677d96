-- Document 02, F-4: "256 lengths (two bytes each, big-endian, 512 bytes)", lent to a call, and check 12 of them.
use Rattle.std.specs.Prelude.{ℕ, zero, suc, ◌+◌, ◌*◌, ◌/◌, ◌%◌, Bool, true, ◌&&◌, ◌||◌, cond, eqb, ltb, length}
use Rattle.lists.specs.Bytes.{Bytes}
use Rattle.octets.specs.Octets.{be16}
use Rattle.cords.specs.Cords.{family}

-- "entry 16 × a + b for connector kinds a and b", of two bytes; 0 where one is no kind, since kinds are 0 to 15
unfoldable pub lent_entry : Bytes → ℕ → ℕ → ℕ
lent_entry table a b = cond (ltb a 16 && ltb b 16) (be16 table (2 * (16 * a + b))) 0

-- "entries a,b and b,a are equal" and "unlike families have 0"
unfoldable pub pair_good : Bytes → ℕ → ℕ → Bool
pair_good table a b =
    eqb (lent_entry table a b) (lent_entry table b a) && (eqb (family a) (family b) || eqb (lent_entry table a b) 0)

-- the test passes at every number below n
unfoldable pub all_below : (ℕ → Bool) → ℕ → Bool
all_below test zero = true
all_below test (suc n) = all_below test n && test n

-- 12: "a table of another length or one failing either test", at one of its 256 entries
unfoldable pub table_good : Bytes → Bool
table_good table = eqb (length table) 512 && all_below (λ k. pair_good table (k / 16) (k % 16)) 256

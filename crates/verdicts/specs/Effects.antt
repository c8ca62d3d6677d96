-- Which places are effective, by places. Q is the table of presented places, G that of targets, M the rows of ancestors, l a list
-- of the sound places other than the creator's, E the table of effects: true where the place is effective.
use Rattle.std.specs.Prelude.{ℕ, ◌<◌, ◌≤◌, ◌≡◌, Bool, true, false, ◌&&◌, ◌||◌, not, eqb, length, get_or, take}
use mathlib.Core.List.{List, Memᴰ}
use Rattle.tables.specs.declared.BitRow.{BitRow}
use Rattle.tables.specs.Bits.{bit_at}

-- the listed places, and those that they present, are below 256
pub record Within (Q l : List ℕ) : Type 0 where
  pub each : (k : ℕ) → Memᴰ k l → (k < 256) × (get_or Q k 0 < 256)

-- a list of places by ascending rank, each once
pub record ByRank (rank : ℕ → ℕ) (l : List ℕ) : Type 0 where
  pub once : (i : ℕ) → i < length l → Memᴰ (get_or l i 0) (take i l) → ⊥
  pub ascends : (i k : ℕ) → i < length l → Memᴰ k (take i l) → rank k ≤ rank (get_or l i 0)
  pub lower_first : (i k : ℕ) → i < length l → Memᴰ k l → rank k < rank (get_or l i 0) → Memᴰ k (take i l)

-- `on k t` says that t is on the line of k. A line is the presented place and then its line, up to the creator, whose line is
-- empty. Ranks ascend from what is presented, and from a revoke to what it can strike.
pub record Graded (on : ℕ → ℕ → Bool) (rank : ℕ → ℕ) (Q G l : List ℕ) : Type 0 where
  pub not_first : (k : ℕ) → Memᴰ k l → k ≡ 0 → ⊥
  pub line : (k t : ℕ) → Memᴰ k l → on k t ≡ (eqb t (get_or Q k 0) || on (get_or Q k 0) t)
  pub presents : (k t : ℕ) → Memᴰ k l → on (get_or Q k 0) t ≡ true
      → Memᴰ (get_or Q k 0) l × (rank (get_or Q k 0) < rank k)
  pub aims : (r k : ℕ) → Memᴰ r l → Memᴰ k l → on k (get_or G r 0) ≡ true → rank r < rank k

-- some effective revoke has its target on the line of k and does not have k as an ancestor
pub record Struck (on : ℕ → ℕ → Bool) (G : List ℕ) (M : List BitRow) (l : List ℕ) (E : List Bool) (k : ℕ) : Type 0 where
  pub revoke : ℕ
  pub listed : Memᴰ revoke l
  pub is_effective : get_or E revoke false ≡ true
  pub target_on_line : on k (get_or G revoke 0) ≡ true
  pub not-ancestor : bit_at M revoke k ≡ false

-- the creator is effective, and of the list all that no effective revoke strikes
pub record Effects (on : ℕ → ℕ → Bool) (G : List ℕ) (M : List BitRow) (l : List ℕ) (E : List Bool) : Type 0 where
  pub creator : get_or E 0 false ≡ true
  pub others : (k : ℕ) → (k ≡ 0 → ⊥) → (Memᴰ k l → ⊥) → get_or E k false ≡ false
  pub not_struck : (k : ℕ) → Memᴰ k l → get_or E k false ≡ true → Struck on G M l E k → ⊥
  pub unstruck : (k : ℕ) → Memᴰ k l → (Struck on G M l E k → ⊥) → get_or E k false ≡ true

-- the rows K after place e: its row keeps what the row of its presented place keeps; and where e is an effective revoke, its
-- target's row keeps only ancestors of e
unfoldable pub narrowed : List ℕ → List ℕ → List BitRow → List BitRow → ℕ → ℕ → ℕ → Bool
narrowed Q G M K e a b =
    bit_at K a b
    && (not (eqb a e) || bit_at K (get_or Q e 0) b)
    && (not (bit_at K (get_or Q e 0) e && eqb a (get_or G e 0)) || bit_at M e b)

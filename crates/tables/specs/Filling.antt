-- Tables of numbers, which read 0 past their end; a table that a loop fills from the front, and a list that a loop reads from
-- the front.
use Rattle.std.specs.Prelude.{ℕ, ◌+◌, ◌<◌, ◌≤◌, ◌≡◌, refl, ◌⊎◌, ltb, length, get_or, take, drop, set}
use Rattle.std.proofs.Common.{add-one, arith, sym, ap, ◌∙◌, subst, ⊎_elim, inl, inr, length-set, take-append-drop, take-suc, get_or-set_same, get_or-set_other, below_more, ltb-true, ltb-false}
use mathlib.Core.List.Memᴰ
use mathlib.Core.List.{
  List,
  [],
  ◌∷◌,
  ◌++◌,
  Memᴰ,
}
use Rattle.std.proofs.Math.ListN.{get_or-eq_default}
use Rattle.lists.specs.Cases.{by_bool}
use Rattle.lists.proofs.Sorting.{mem_get_d}

-- what holds of 0 and of every entry holds at every index
pub everywhere : (P : ℕ → Type 0) (T : List ℕ) → P 0 → ((k : ℕ) → k < length T → P (get_or T k 0)) → (k : ℕ) → P (get_or T k 0)
everywhere P T past within k =
    by_bool (ltb k (length T))
    (λ t. within k (ltb-true k (length T) t))
    (λ f. subst P (sym (get_or-eq_default T 0 (ltb-false k (length T) f))) past)

pub zeros_all : (T : List ℕ) → ((k : ℕ) → k < length T → get_or T k 0 ≡ 0) → (k : ℕ) → get_or T k 0 ≡ 0
zeros_all T h = everywhere (λ (v : ℕ). v ≡ 0) T refl h

-- an index where the table does not read 0 is one of the table
pub entry_inside : (T : List ℕ) (k : ℕ) → (get_or T k 0 ≡ 0 → ⊥) → k < length T
entry_inside T k ne =
    by_bool (ltb k (length T))
    (λ t. ltb-true k (length T) t)
    (λ f. absurd (ne (get_or-eq_default T 0 (ltb-false k (length T) f))))

-- one entry more of a table that a loop fills
pub table_more : (f : ℕ → ℕ) (T : List ℕ) (i v : ℕ) → i < length T → ((k : ℕ) → k < i → get_or T k 0 ≡ f k) → v ≡ f i
    → (k : ℕ) → k < i + 1 → get_or (set T i v) k 0 ≡ f k
table_more f T i v l h e =
    below_more (λ (k : ℕ). get_or (set T i v) k 0 ≡ f k) i
    (λ k b. get_or-set_other T i k v 0 (λ q. omega (arith, q, b)) ∙ h k b)
    (get_or-set_same T i v 0 l ∙ e)

-- the first n entries of a table follow a rule
pub record Filled (f : ℕ → ℕ) (n : ℕ) (table : List ℕ) : Type 0 where
  pub entry : (k : ℕ) → k < n → get_or table k 0 ≡ f k

-- a loop that fills a table of n entries by a rule has filled the first i
pub record Filling (f : ℕ → ℕ) (n : ℕ) (table : List ℕ) (i : ℕ) : Type 0 where
  pub size : length table ≡ n
  pub within : i ≤ n
  pub made : Filled f i table

pub filling_none : (f : ℕ → ℕ) (table : List ℕ) → Filling f (length table) table 0
filling_none f table =
    record { size = refl; within = omega arith; made = record { entry = λ k h. let z : ⊥ = omega (arith, h) in absurd z } }

module _ (f : ℕ → ℕ) (n : ℕ) (table : List ℕ) (i : ℕ) (d : Filling f n table i) where
  pub filling_more : (v : ℕ) → i < length table → v ≡ f i → Filling f n (set table i v) (i + 1)
  filling_more v h e =
      record {
        size = length-set table i v ∙ d.size;
        within = omega (arith, h, d.size);
        made = record { entry = table_more f table i v h d.made.entry e };
      }

  pub filling_all : length table ≤ i → Filled f n table
  filling_all h = record { entry = λ k l. d.made.entry k (omega (arith, h, l, d.size)) }

-- a list of numbers below 256 has one at each index
pub listed_low : (l : List ℕ) (i : ℕ) → ((k : ℕ) → Memᴰ k l → k < 256) → i < length l → get_or l i 0 < 256
listed_low l i low h = low (get_or l i 0) (mem_get_d l i 0 h)

-- the members up to an index, and one more
module _ (l : List ℕ) (i : ℕ) (h : i < length l) where
  one_more : take (i + 1) l ≡ take i l ++ (get_or l i 0 ∷ [])
  one_more = ap (λ (j : ℕ). take j l) (add-one i) ∙ take-suc l i 0 h

  pub more→ : (k : ℕ) → Memᴰ k (take (i + 1) l) → Memᴰ k (take i l) ⊎ (k ≡ get_or l i 0)
  more→ k m =
      ⊎_elim (λ n. inl n) (λ n. inr (Memᴰ.eq_of_singleton n))
      (Memᴰ.append_cases (take i l) (subst (Memᴰ k) one_more m))

  pub more← : (k : ℕ) → Memᴰ k (take i l) → Memᴰ k (take (i + 1) l)
  more← k m = subst (Memᴰ k) (sym one_more) (Memᴰ.append_left (get_or l i 0 ∷ []) m)

  pub last : Memᴰ (get_or l i 0) (take (i + 1) l)
  last = subst (Memᴰ (get_or l i 0)) (sym one_more) (Memᴰ.append_right (take i l) (Memᴰ.head refl))

-- what stands in front is in the list
pub taken : (l : List ℕ) (i k : ℕ) → Memᴰ k (take i l) → Memᴰ k l
taken l i k m = subst (Memᴰ k) (take-append-drop i l) (Memᴰ.append_left (drop i l) m)

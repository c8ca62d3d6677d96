-- Tables that a loop fills at the places of a list.
use Prim.Native.Nat.{ℕ, ◌+◌, ◌*◌, ◌<◌, ◌≤◌}
use native.Mathlib.Omega.{arith}
use mathlib.Core.Path.{◌≡◌, ap, ◌∙◌}
use mathlib.Core.Bool.{Bool, false}
use mathlib.Core.Logic.{⊎_elim}
use mathlib.Core.List.Memᴰ
use mathlib.Core.List.{List, map, Memᴰ}
use Rattle.std.specs.Prelude.{Option, None}
use Rattle.std.proofs.lemmas.List.{length-map, map-set}
use lib.Dec.{eqb, ltb}
use lib.ListN.{length, get_or, take, set, length-set, replicate, length-replicate, get_or-replicate}
use Rattle.std.proofs.Math.ListN.{get_or-eq_default}
use lib.Seq.{get_or-set_same, get_or-set_other}
use borrow.Author.Tests.{eqb-true, eqb-false, ltb-true, ltb-false}
use Rattle.lists.specs.Bytes.{Bytes}
use Rattle.lists.specs.Cases.{by_bool}
use Rattle.ordering.specs.Order.{Ordered}
use Rattle.ordering.proofs.OrderLaws.{parents_listed}
use Rattle.tables.specs.declared.BitRow.{BitRow}
use Rattle.tables.specs.Filling.{more→, more←, last}
use Rattle.authority.specs.Found.{ancestor_by, place_number, target_by, NamedAncestors}
use Rattle.authority.specs.Sound.{parents_sound, sound_at, SoundTable}

-- one place more
listed_more : {X : Type 0} (d : X) (f : ℕ → X) (l : List ℕ) (A : List X) (i : ℕ) (v : X) → i < length l → get_or l i 0 < length A
    → ((k : ℕ) → Memᴰ k (take i l) → get_or A k d ≡ f k) → v ≡ f (get_or l i 0)
    → (k : ℕ) → Memᴰ k (take (i + 1) l) → get_or (set A (get_or l i 0) v) k d ≡ f k
listed_more d f l A i v h low filled e k m =
    by_bool (eqb k (get_or l i 0))
    (λ t. let z : k ≡ get_or l i 0 = eqb-true k (get_or l i 0) t in rw z (get_or-set_same A (get_or l i 0) v d low ∙ e))
    (λ g.
    let ne = eqb-false k (get_or l i 0) g in
    get_or-set_other A (get_or l i 0) k v d ne ∙ ⊎_elim (filled k) (λ z. absurd (ne z)) (more→ l i h k m))

-- ── presented places and targets ────────────────────────────────────────────────────────────────────────────────────────

-- after the first i places
pub record NamedTo (store : Bytes) (P : List ℕ) (M : List BitRow) (l : List ℕ) (Q G : List (Option ℕ)) (i : ℕ) : Type 0 where
  pub size_presented : length Q ≡ 256
  pub size_targets : length G ≡ 256
  pub made : NamedAncestors store P M (take i l) (map place_number Q) (map place_number G)

pub named_none : (store : Bytes) (P : List ℕ) (M : List BitRow) (l : List ℕ) → NamedTo store P M l (replicate 256 None) (replicate 256 None) 0
named_none store P M l =
    record {
      size_presented = length-replicate {A = Option ℕ} 256 None;
      size_targets = length-replicate {A = Option ℕ} 256 None;
      made = record { presents = λ k m. absurd (Memᴰ.not-nil m); names = λ k m. absurd (Memᴰ.not-nil m) };
    }

module _ (store : Bytes) (P : List ℕ) (M : List BitRow) (l : List ℕ) (Q G : List (Option ℕ)) (i : ℕ) (d : NamedTo store P M l Q G i)
    (h : i < length l) (low : get_or l i 0 < 256) where
  -- one entry more of a table of places
  place_more : (f : ℕ → Option ℕ) (A : List (Option ℕ)) (v : Option ℕ) → length A ≡ 256
      → ((k : ℕ) → Memᴰ k (take i l) → get_or (map place_number A) k 0 ≡ place_number (f k)) → v ≡ f (get_or l i 0)
      → (k : ℕ) → Memᴰ k (take (i + 1) l) → get_or (map place_number (set A (get_or l i 0) v)) k 0 ≡ place_number (f k)
  place_more f A v size made e k m =
      let inside : get_or l i 0 < length (map place_number A) = omega (arith, low, size, length-map A place_number) in
      rw (map-set place_number A (get_or l i 0) v)
      (listed_more 0 (λ k. place_number (f k)) l (map place_number A) i (place_number v) h inside made (ap place_number e) k m)

  -- the next place
  pub named_more : (p t : Option ℕ) → p ≡ ancestor_by P M (get_or l i 0) 3 → t ≡ target_by store P M (get_or l i 0)
      → NamedTo store P M l (set Q (get_or l i 0) p) (set G (get_or l i 0) t) (i + 1)
  named_more p t presents names =
      record {
        size_presented = length-set Q (get_or l i 0) p ∙ d.size_presented;
        size_targets = length-set G (get_or l i 0) t ∙ d.size_targets;
        made = record {
          presents = place_more (λ k. ancestor_by P M k 3) Q p d.size_presented d.made.presents presents;
          names = place_more (target_by store P M) G t d.size_targets d.made.names names;
        };
      }

-- ── sound places ────────────────────────────────────────────────────────────────────────────────────────────────────────

-- another entry written leaves what is said of a place whose parents do not stand there
sound-keep : (store : Bytes) (P Q G : List ℕ) (S : List Bool) (k q : ℕ) (v : Bool) → ((j : ℕ) → j < 3 → get_or P (k * 5 + j) 0 ≡ q → ⊥)
    → sound_at store P Q G S k ≡ sound_at store P Q G (set S q v) k
unfolding sound_at parents_sound
sound-keep store P Q G S k q v apart =
    let zero-column : k * 5 + 0 ≡ k * 5 = omega arith in
    let first = get_or-set_other S q (get_or P (k * 5) 0) v false (rw zero-column at (apart 0 (omega arith))) in
    let second = get_or-set_other S q (get_or P (k * 5 + 1) 0) v false (apart 1 (omega arith)) in
    let third = get_or-set_other S q (get_or P (k * 5 + 2) 0) v false (apart 2 (omega arith)) in
    rw (first, second, third)

-- after the first i places
pub record SoundTo (store : Bytes) (P Q G l : List ℕ) (S : List Bool) (i : ℕ) : Type 0 where
  pub size : length S ≡ 256
  pub made : SoundTable store P Q G (take i l) S

pub sound_none : (store : Bytes) (P Q G l : List ℕ) → SoundTo store P Q G l (replicate 256 false) 0
sound_none store P Q G l =
    record {
      size = length-replicate 256 false;
      made = record {
        made = λ k m. absurd (Memᴰ.not-nil m);
        rest = λ k m. by_bool (ltb k 256)
            (λ t. get_or-replicate 256 k false false (ltb-true k 256 t))
            (λ f. let h : length (replicate 256 false) ≤ k = omega (arith, length-replicate 256 false, ltb-false k 256 f) in get_or-eq_default (replicate 256 false) false h);
      };
    }

-- the next place
module _ (store : Bytes) (P Q G l : List ℕ) (S : List Bool) (i : ℕ) (ordered : Ordered P l) (d : SoundTo store P Q G l S i)
    (h : i < length l) (low : get_or l i 0 < 256) (v : Bool) (value : v ≡ sound_at store P Q G S (get_or l i 0)) where
  -- the parents of what is listed so far stand before the place
  parent_before : (q j : ℕ) → Memᴰ q (take (i + 1) l) → j < 3 → get_or P (q * 5 + j) 0 < 256
      → Memᴰ (get_or P (q * 5 + j) 0) (take i l)
  parent_before q j m lj lp =
      ⊎_elim
      (λ r. parents_listed P l ordered i (omega (arith, h)) q j r lj lp)
      (λ (e : q ≡ get_or l i 0). rw e (ordered.behind i j h lj (rw e at lp)))
      (more→ l i h q m)

  kept : (q : ℕ) → Memᴰ q (take (i + 1) l) → sound_at store P Q G S q ≡ sound_at store P Q G (set S (get_or l i 0) v) q
  kept q m =
      sound-keep store P Q G S q (get_or l i 0) v
      (λ j lj e. ordered.once i h (rw e at (parent_before q j m lj (rw e low))))

  pub sound_more : SoundTo store P Q G l (set S (get_or l i 0) v) (i + 1)
  sound_more =
      let inside : get_or l i 0 < length S = omega (arith, low, d.size) in
      record {
        size = length-set S (get_or l i 0) v ∙ d.size;
        made = record {
          made = λ q m. listed_more false (λ k. sound_at store P Q G S k) l S i v h inside d.made.made value q m ∙ kept q m;
          rest = λ q m. get_or-set_other S (get_or l i 0) q v false (λ e. m (Memᴰ.cast e (last l i h))) ∙ d.made.rest q (λ r. m (more← l i h q r));
        };
      }

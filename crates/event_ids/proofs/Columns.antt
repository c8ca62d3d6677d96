-- The words of one lane: what is read of them, and what a store into the array does to each lane.
use mathlib.Core.Path.{◌≡◌, refl, sym, ap, ap₂, ◌∙◌}
use mathlib.Core.List.{List, [], ◌∷◌, ◌++◌}
use Prim.Native.Nat.{ℕ, zero, suc, ◌+◌, ◌*◌, ◌<◌}
use native.Mathlib.Omega.{arith}
use lib.Dec.{ltb}
use lib.ListN.{length, get_or, set, length-set}
use lib.Seq.{get_or-set_other, get_or-set_same, set-append_left, set_at}
use borrow.Author.Tests.{ltb-true, ltb-false}
use Rattle.lists.specs.Cases.{by_bool}
use Rattle.lists.specs.Tables.{made-length, made_at}
use Rattle.sha256.specs.declared.State.{State}
use Rattle.event_ids.specs.Lanes.{column, state_of, state_at, OtherStates}

-- a column of n words, whatever the array, and the word j of lane l
column_more : (l : ℕ) (w : List ℕ) (n : ℕ) → column l (suc n) w ≡ column l n w ++ (get_or w (l + n * 4) 0 ∷ [])
unfolding column
column_more l w n = refl

pub length-column : (l n : ℕ) (w : List ℕ) → length (column l n w) ≡ n
unfolding column
length-column l n w = made-length (λ j. get_or w (l + j * 4) 0) (λ m. column l m w) refl (column_more l w) n

pub get_d_column : (l n j : ℕ) (w : List ℕ) → j < n → get_or (column l n w) j 0 ≡ get_or w (l + j * 4) 0
unfolding column
get_d_column l n j w h = made_at (λ i. get_or w (l + i * 4) 0) (λ m. column l m w) refl (column_more l w) n j h

-- a store that hits none of the first n words of lane l
column_apart : (l n i v : ℕ) (w : List ℕ) → ((j : ℕ) → j < n → l + j * 4 ≡ i → ⊥) → column l n (set w i v) ≡ column l n w
unfolding column
column_apart l zero i v w h = refl
column_apart l (suc n) i v w h =
    ap₂ (λ (x : List ℕ) (y : ℕ). x ++ (y ∷ []))
    (column_apart l n i v w (λ j k. h j (omega arith)))
    (get_or-set_other w i (l + n * 4) v 0 (h n (omega arith)))

-- a store into another lane
pub column_other : (k l n j i v : ℕ) (w : List ℕ) → k < 4 → l < 4 → (k ≡ l → ⊥) → i ≡ l + j * 4
    → column k n (set w i v) ≡ column k n w
column_other k l n j i v w hk hl ne e = column_apart k n i v w (λ m _ q. ne (omega arith))

-- a store into the word j of lane l
pub column_own : (l n j i v : ℕ) (w : List ℕ) → j < n → i < length w → i ≡ l + j * 4
    → column l n (set w i v) ≡ set (column l n w) j v
unfolding column
column_own l zero j i v w h hi e = let z : ⊥ = omega arith in absurd z
column_own l (suc n) j i v w h hi e =
    by_bool (ltb j n)
    (λ t. let b : j < n = ltb-true j n t in
    let kept = get_or-set_other w i (l + n * 4) v 0 (λ q. omega arith) in
    ap₂ (λ (x : List ℕ) (y : ℕ). x ++ (y ∷ [])) (column_own l n j i v w b hi e) kept
    ∙ sym (set-append_left (column l n w) (get_or w (l + n * 4) 0 ∷ []) j v (omega (arith, length-column l n w))))
    (λ f. let b : j ≡ n = omega (arith, ltb-false j n f) in last b)
  where
    last : j ≡ n
        → column l n (set w i v) ++ (get_or (set w i v) (l + n * 4) 0 ∷ []) ≡ set (column l n w ++ (get_or w (l + n * 4) 0 ∷ [])) j v
    last b =
        let f : l + n * 4 ≡ i = omega arith in
        let kept = column_apart l n i v w (λ m k q. omega arith) in
        let end = set_at (column l n w) (get_or w i 0) [] v j (length-column l n w ∙ sym b) in
        rw (kept, f, get_or-set_same w i v 0 hi, end)

-- the eight stores of a state
unfoldable pub stored_at : ℕ → State → List ℕ → List ℕ
stored_at l s x =
    let x3 = set (set (set (set x l s.a) (l + 4) s.b) (l + 8) s.c) (l + 12) s.d in
    set (set (set (set x3 (l + 16) s.e) (l + 20) s.f) (l + 24) s.g) (l + 28) s.h

module _ (l : ℕ) (s : State) (x : List ℕ) (hl : l < 4) (n : length x ≡ 32) where
  -- one of them, in lane l
  one : (y : List ℕ) (j v : ℕ) → j < 8 → length y ≡ 32 → column l 8 (set y (l + j * 4) v) ≡ set (column l 8 y) j v
  one y j v h k = column_own l 8 j (l + j * 4) v y h (omega arith) refl

  pub state_stored : state_at l (stored_at l s x) ≡ s
  unfolding state_at stored_at
  state_stored =
      let x0 = set x l s.a in
      let x1 = set x0 (l + 4) s.b in
      let x2 = set x1 (l + 8) s.c in
      let x3 = set x2 (l + 12) s.d in
      let x4 = set x3 (l + 16) s.e in
      let x5 = set x4 (l + 20) s.f in
      let x6 = set x5 (l + 24) s.g in
      let first = column_own l 8 0 l s.a x (omega arith) (omega arith) (omega arith) in
      let e1 = one x0 1 s.b (omega arith) (simp length-set n) in
      let e2 = one x1 2 s.c (omega arith) (simp length-set n) in
      let e3 = one x2 3 s.d (omega arith) (simp length-set n) in
      let e4 = one x3 4 s.e (omega arith) (simp length-set n) in
      let e5 = one x4 5 s.f (omega arith) (simp length-set n) in
      let e6 = one x5 6 s.g (omega arith) (simp length-set n) in
      let e7 = one x6 7 s.h (omega arith) (simp length-set n) in
      rw (e7, e6, e5, e4, e3, e2, e1, first) (unfold column in refl)

  -- one of them, in another lane
  away : (k : ℕ) (y : List ℕ) (j i v : ℕ) → k < 4 → (k ≡ l → ⊥) → i ≡ l + j * 4 → column k 8 (set y i v) ≡ column k 8 y
  away k y j i v hk ne e = column_other k l 8 j i v y hk hl ne e

  pub others_stored : OtherStates l x (stored_at l s x)
  unfolding state_at stored_at
  others_stored k hk ne =
      let x0 = set x l s.a in
      let x1 = set x0 (l + 4) s.b in
      let x2 = set x1 (l + 8) s.c in
      let x3 = set x2 (l + 12) s.d in
      let x4 = set x3 (l + 16) s.e in
      let x5 = set x4 (l + 20) s.f in
      let x6 = set x5 (l + 24) s.g in
      ap state_of
      (away k x6 7 (l + 28) s.h hk ne refl
      ∙ away k x5 6 (l + 24) s.g hk ne refl
      ∙ away k x4 5 (l + 20) s.f hk ne refl
      ∙ away k x3 4 (l + 16) s.e hk ne refl
      ∙ away k x2 3 (l + 12) s.d hk ne refl
      ∙ away k x1 2 (l + 8) s.c hk ne refl
      ∙ away k x0 1 (l + 4) s.b hk ne refl
      ∙ away k x 0 l s.a hk ne (omega arith))

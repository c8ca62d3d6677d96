-- Laws over the words of specs/Bytes.
-- Byte strings: equality and order. This is the one equality of ids and the one order of ids.
use Rattle.std.specs.Prelude.{ℕ, ◌<◌, ◌≡◌, refl, ◌⊎◌, true, false, ◌&&◌, [], ◌∷◌, eqb, ltb}
use Rattle.std.proofs.Common.{arith, sym, ap₂, ◌∙◌, inl, inr, ⊎_elim, ltb-true, eqb-true, lt-ltb, eq-eqb}
use Rattle.lists.specs.Cases.{by_bool, clash, and→, and←, or→, or←l, or←r}
use Rattle.lists.specs.Bytes.{Bytes, same_bytes, precedes}

pub same_refl : (a : Bytes) → same_bytes a a ≡ true
unfolding same_bytes
same_refl [] = refl
same_refl (x ∷ xs) = and← (eqb x x) (same_bytes xs xs) (eq-eqb x x refl) (same_refl xs)

pub same→ : (a b : Bytes) → same_bytes a b ≡ true → a ≡ b
unfolding same_bytes
same→ [] [] e = refl
same→ [] (y ∷ ys) e = clash false e refl
same→ (x ∷ xs) [] e = clash false e refl
same→ (x ∷ xs) (y ∷ ys) e =
    let h = and→ (eqb x y) (same_bytes xs ys) e in
    ap₂ ◌∷◌ (eqb-true x y h.0) (same→ xs ys h.1)

pub same← : (a b : Bytes) → a ≡ b → same_bytes a b ≡ true
same← a b p = rw p (same_refl b)

-- the first bytes are equal, and the order is decided behind them
abbrev Tail : ℕ → ℕ → Bytes → Bytes → Type 0
Tail x y xs ys = (x ≡ y) × (precedes xs ys ≡ true)

pub precedes→ : (x y : ℕ) (xs ys : Bytes) → precedes (x ∷ xs) (y ∷ ys) ≡ true → (x < y) ⊎ ((x ≡ y) × (precedes xs ys ≡ true))
unfolding precedes
precedes→ x y xs ys e = ⊎_elim (λ p. inl (ltb-true x y p)) later (or→ (ltb x y) (eqb x y && precedes xs ys) e)
  where
    later : (eqb x y && precedes xs ys) ≡ true → (x < y) ⊎ Tail x y xs ys
    later q = let h = and→ (eqb x y) (precedes xs ys) q in inr (eqb-true x y h.0, h.1)

pub precedes_first : (x y : ℕ) (xs ys : Bytes) → x < y → precedes (x ∷ xs) (y ∷ ys) ≡ true
unfolding precedes
precedes_first x y xs ys h = or←l (ltb x y) (eqb x y && precedes xs ys) (lt-ltb x y h)

pub precedes_later : (x y : ℕ) (xs ys : Bytes) → x ≡ y → precedes xs ys ≡ true → precedes (x ∷ xs) (y ∷ ys) ≡ true
unfolding precedes
precedes_later x y xs ys p h = or←r (ltb x y) (eqb x y && precedes xs ys) (and← (eqb x y) (precedes xs ys) (eq-eqb x y p) h)

pub precedes_irrefl : (a : Bytes) → precedes a a ≡ true → ⊥
unfolding precedes
precedes_irrefl [] e = clash false e refl
precedes_irrefl (x ∷ xs) e =
    ⊎_elim (λ (h : x < x). omega arith) (λ (h : Tail x x xs xs). precedes_irrefl xs h.1) (precedes→ x x xs xs e)

pub precedes_trans : (a b c : Bytes) → precedes a b ≡ true → precedes b c ≡ true → precedes a c ≡ true
unfolding precedes
precedes_trans [] [] c p q = clash false p refl
precedes_trans [] (y ∷ ys) [] p q = clash false q refl
precedes_trans [] (y ∷ ys) (z ∷ zs) p q = refl
precedes_trans (x ∷ xs) [] c p q = clash false p refl
precedes_trans (x ∷ xs) (y ∷ ys) [] p q = clash false q refl
precedes_trans (x ∷ xs) (y ∷ ys) (z ∷ zs) p q =
    let next = precedes→ y z ys zs q in
    ⊎_elim
    (λ (h : x < y). precedes_first x z xs zs (⊎_elim (λ (g : y < z). omega arith) (λ (g : Tail y z ys zs). omega (arith, g.0)) next))
    (λ (h : Tail x y xs ys). ⊎_elim
    (λ (g : y < z). precedes_first x z xs zs (omega (arith, h.0)))
    (λ (g : Tail y z ys zs). precedes_later x z xs zs (h.0 ∙ g.0) (precedes_trans xs ys zs h.1 g.1))
    next)
    (precedes→ x y xs ys p)

pub precedes-total : (a b : Bytes) → precedes a b ≡ false → precedes b a ≡ false → a ≡ b
unfolding precedes
precedes-total [] [] p q = refl
precedes-total [] (y ∷ ys) p q = clash true refl p
precedes-total (x ∷ xs) [] p q = clash true refl q
precedes-total (x ∷ xs) (y ∷ ys) p q =
    let not-less : x < y → ⊥ = λ h. clash _ (precedes_first x y xs ys h) p in
    let not_more : y < x → ⊥ = λ h. clash _ (precedes_first y x ys xs h) q in
    let equal : x ≡ y = omega arith in
    ap₂ ◌∷◌ equal
    (precedes-total xs ys
    (by_bool (precedes xs ys) (λ t. clash _ (precedes_later x y xs ys equal t) p) (λ f. f))
    (by_bool (precedes ys xs) (λ t. clash _ (precedes_later y x ys xs (sym equal) t) q) (λ f. f)))

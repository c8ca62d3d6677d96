-- Laws over the words of specs/Tests.
-- Tests over a list: some member passes, all do, those that do; and membership of a byte string.
use Rattle.std.specs.Prelude.{ℕ, zero, suc, ◌+◌, ◌<◌, ◌≡◌, refl, Bool, true, false, not, ◌&&◌, ◌||◌, cond, length, get_or}
use Rattle.std.proofs.Common.{not-suc-le-zero, le_of_suc-le-suc, arith, ap, ap₂, ⊎_elim}
use mathlib.Core.List.Memᴰ
use mathlib.Core.List.{List, [], ◌∷◌, ◌++◌, map, Memᴰ}
use Rattle.lists.specs.Cases.{by_bool, clash, and→, and←, or→, or←l, or←r}
use Rattle.lists.specs.Bytes.{Bytes, same_bytes}
use Rattle.lists.proofs.Bytes.{same→, same_refl}
use Rattle.lists.specs.Tests.{any_of, all_of, keep, member_of}

module _ {A : Type 0} where
  pub any→ : (p : A → Bool) (l : List A) → any_of p l ≡ true → (y : A) × Memᴰ y l × (p y ≡ true)
  any→ p [] e = clash false e refl
  any→ p (x ∷ xs) e =
      ⊎_elim
      (λ q. (x, Memᴰ.head refl, q))
      (λ q. let r = any→ p xs q in (r.0, Memᴰ.tail r.1, r.2))
      (or→ (p x) (any_of p xs) e)

  pub any← : (p : A → Bool) (l : List A) (y : A) → Memᴰ y l → p y ≡ true → any_of p l ≡ true
  any← p [] y m e = absurd (Memᴰ.not-nil m)
  any← p (x ∷ xs) y m e =
      ⊎_elim
      (λ (q : y ≡ x). or←l (p x) (any_of p xs) (rw (← q) e))
      (λ n. or←r (p x) (any_of p xs) (any← p xs y n e))
      (Memᴰ.cases_cons m)

  pub all→ : (p : A → Bool) (l : List A) → all_of p l ≡ true → (y : A) → Memᴰ y l → p y ≡ true
  all→ p [] e y m = absurd (Memᴰ.not-nil m)
  all→ p (x ∷ xs) e y m =
      let h = and→ (p x) (all_of p xs) e in
      ⊎_elim (λ (q : y ≡ x). rw q h.0) (λ n. all→ p xs h.1 y n) (Memᴰ.cases_cons m)

  pub all← : (p : A → Bool) (l : List A) → ((y : A) → Memᴰ y l → p y ≡ true) → all_of p l ≡ true
  all← p [] h = refl
  all← p (x ∷ xs) h = and← (p x) (all_of p xs) (h x (Memᴰ.head refl)) (all← p xs (λ y m. h y (Memᴰ.tail m)))

  pub all_at : (p : A → Bool) (l : List A) (d : A) → all_of p l ≡ true → (i : ℕ) → i < length l → p (get_or l i d) ≡ true
  all_at p [] d e i h = absurd (not-suc-le-zero h)
  all_at p (x ∷ xs) d e zero h = (and→ (p x) (all_of p xs) e).0
  all_at p (x ∷ xs) d e (suc i) h = all_at p xs d (and→ (p x) (all_of p xs) e).1 i (le_of_suc-le-suc h)

  pub any_cong : (p q : A → Bool) (l : List A) → ((y : A) → Memᴰ y l → p y ≡ q y) → any_of p l ≡ any_of q l
  any_cong p q [] h = refl
  any_cong p q (x ∷ xs) h = ap₂ ◌||◌ (h x (Memᴰ.head refl)) (any_cong p q xs (λ y m. h y (Memᴰ.tail m)))

  pub all_cong : (p q : A → Bool) (l : List A) → ((y : A) → Memᴰ y l → p y ≡ q y) → all_of p l ≡ all_of q l
  all_cong p q [] h = refl
  all_cong p q (x ∷ xs) h = ap₂ ◌&&◌ (h x (Memᴰ.head refl)) (all_cong p q xs (λ y m. h y (Memᴰ.tail m)))

  pub keep→ : (p : A → Bool) (l : List A) (y : A) → Memᴰ y (keep p l) → Memᴰ y l × (p y ≡ true)
  keep→ p [] y m = absurd (Memᴰ.not-nil m)
  keep→ p (x ∷ xs) y m =
      by_bool (p x)
      (λ e. ⊎_elim (λ (q : y ≡ x). (Memᴰ.head q, rw q e)) (λ n. behind (keep→ p xs y n)) (Memᴰ.cases_cons (rw e at m)))
      (λ e. behind (keep→ p xs y (rw e at m)))
    where
      behind : Memᴰ y xs × (p y ≡ true) → Memᴰ y (x ∷ xs) × (p y ≡ true)
      behind h = (Memᴰ.tail h.0, h.1)

  pub keep← : (p : A → Bool) (l : List A) (y : A) → Memᴰ y l → p y ≡ true → Memᴰ y (keep p l)
  keep← p [] y m e = m
  keep← p (x ∷ xs) y m e =
      by_bool (p x)
      (λ t. rw t (⊎_elim (λ q. Memᴰ.head q) (λ n. Memᴰ.tail (keep← p xs y n e)) (Memᴰ.cases_cons m)))
      (λ f. rw f (⊎_elim (λ (q : y ≡ x). clash (p x) (rw (← q) e) f) (λ n. keep← p xs y n e) (Memᴰ.cases_cons m)))

  pub keep_cong : (p q : A → Bool) (l : List A) → ((y : A) → p y ≡ q y) → keep p l ≡ keep q l
  keep_cong p q [] h = refl
  keep_cong p q (x ∷ xs) h = rw (h x, keep_cong p q xs h)

  -- those that pass two tests, one after the other
  pub keep-keep : (p q : A → Bool) (l : List A) → keep p (keep q l) ≡ keep (λ x. q x && p x) l
  keep-keep p q [] = refl
  keep-keep p q (x ∷ xs) =
      by_bool (q x)
      (λ t. rw t (by_bool (p x) (λ u. rw u (ap (λ (r : List A). x ∷ r) (keep-keep p q xs))) (λ g. rw g (keep-keep p q xs))))
      (λ f. rw f (keep-keep p q xs))

  pub keep_all : (p : A → Bool) (l : List A) → ((y : A) → Memᴰ y l → p y ≡ true) → keep p l ≡ l
  keep_all p [] h = refl
  keep_all p (x ∷ xs) h = rw (h x (Memᴰ.head refl)) (ap (λ (r : List A). x ∷ r) (keep_all p xs (λ y m. h y (Memᴰ.tail m))))

  pub keep_append : (p : A → Bool) (l m : List A) → keep p (l ++ m) ≡ keep p l ++ keep p m
  keep_append p [] m = refl
  keep_append p (x ∷ xs) m = by_bool (p x) (λ t. rw t (ap (λ (r : List A). x ∷ r) (keep_append p xs m))) (λ f. rw f (keep_append p xs m))

-- those that pass and those that do not are all
pub keep_split : {A : Type 0} (p : A → Bool) (l : List A) → length (keep (λ x. not (p x)) l) + length (keep p l) ≡ length l
keep_split p [] = omega arith
keep_split p (x ∷ xs) = let h = keep_split p xs in by_bool (p x) (λ t. rw t (omega arith)) (λ f. rw f (omega arith))

pub member→ : (i : Bytes) (l : List Bytes) → member_of i l ≡ true → Memᴰ i l
member→ i l e = let h = any→ (same_bytes i) l e in Memᴰ.cast (same→ i h.0 h.2) h.1

pub member← : (i : Bytes) (l : List Bytes) → Memᴰ i l → member_of i l ≡ true
member← i l m = any← (same_bytes i) l i m (same_refl i)

pub any_map : {A B : Type 0} (p : B → Bool) (f : A → B) (l : List A) → any_of p (map f l) ≡ any_of (λ x. p (f x)) l
any_map p f [] = refl
any_map p f (x ∷ xs) = ap (λ (b : Bool). p (f x) || b) (any_map p f xs)

-- the entries of a mapped list
pub map_at : {A B : Type 0} (f : A → B) (l : List A) (k : ℕ) (a : A) (b : B) → k < length l → get_or (map f l) k b ≡ f (get_or l k a)
map_at f [] k a b h = absurd (not-suc-le-zero h)
map_at f (x ∷ xs) zero a b h = refl
map_at f (x ∷ xs) (suc k) a b h = map_at f xs k a b (le_of_suc-le-suc h)

-- two functions that agree on the members
pub map_agree : {A B : Type 0} (f g : A → B) (l : List A) → ((y : A) → Memᴰ y l → f y ≡ g y) → map f l ≡ map g l
map_agree f g [] h = refl
map_agree f g (x ∷ xs) h = ap₂ ◌∷◌ (h x (Memᴰ.head refl)) (map_agree f g xs (λ y m. h y (Memᴰ.tail m)))

pub keep_agree : {A : Type 0} (p q : A → Bool) (l : List A) → ((y : A) → Memᴰ y l → p y ≡ q y) → keep p l ≡ keep q l
keep_agree p q [] h = refl
keep_agree p q (x ∷ xs) h =
    let rest = keep_agree p q xs (λ y m. h y (Memᴰ.tail m)) in
    rw (h x (Memᴰ.head refl)) (ap (λ (l : List _). cond (q x) (x ∷ l) l) rest)

pub keep-map : {A B : Type 0} (p : B → Bool) (f : A → B) (l : List A) → keep p (map f l) ≡ map f (keep (λ x. p (f x)) l)
keep-map p f [] = refl
keep-map p f (x ∷ xs) =
    by_bool (p (f x)) (λ t. rw t (ap (λ (l : List _). f x ∷ l) (keep-map p f xs))) (λ g. rw g (keep-map p f xs))

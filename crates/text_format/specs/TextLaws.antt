-- Laws of the text that its callers and readers need.
use Rattle.std.specs.Prelude.{ℕ, zero, suc, ◌+◌, ◌*◌, ◌/◌, ◌%◌, ◌≤◌, ◌<◌, ◌≡◌, refl, Bool, ltb}
use Rattle.std.proofs.Common.{arith, ◌∙◌, lt-ltb, le-ltb, ltb-false}
use Rattle.std.proofs.Math.Path.{sym, ap}
use mathlib.Core.List.Memᴰ
use mathlib.Core.List.{List, [], ◌∷◌, ◌++◌, map, flatten, append-nil, Memᴰ}
use Rattle.std.proofs.Math.Dec.{eqb}
use Rattle.std.proofs.Math.ListN.{length, length-map}
use Rattle.lists.specs.Cases.{by_bool}
use Rattle.lists.specs.Bytes.{Bytes, precedes}
use Rattle.lists.specs.Tests.{keep}
use Rattle.lists.proofs.Tests.{keep-map}
use Rattle.lists.specs.Sorting.{insert_by, sort_by}
use Rattle.lists.specs.Chunks.{chunks, AllOfLength, length-flatten, chunks-flatten}
use Rattle.event.specs.declared.Cord.{Cord}
use Rattle.event.specs.Contents.{port_a_of, port_b_of, kind_a_of, kind_b_of}
use Rattle.model.specs.Numbers.{bytes16}
use Rattle.model.specs.Events.{Event}
use Rattle.model.specs.Heights.{view}
use Rattle.model.specs.Verdicts.{verdict}
use Rattle.model.specs.Map.{map_rows}
use Rattle.model.specs.Rows.{map_row, map_bytes}
use Rattle.text_format.specs.Text.{last_digit, decimal_in, decimal, row_cord, rows_in, how_many, text_of, room_text}

-- ── decimal numbers ──────────────────────────────────────────────────────────────────────────────────────────────────────────

-- every bound that is above the number gives the same digits
enough : (f g n : ℕ) → n < f → n < g → decimal_in f n ≡ decimal_in g n
unfolding decimal_in
enough zero g n h k = let z : ⊥ = omega arith in absurd z
enough (suc f) zero n h k = let z : ⊥ = omega arith in absurd z
enough (suc f) (suc g) n h k =
    by_bool (ltb n 10) (λ t. rw t)
    (λ t. let l : 10 ≤ n = ltb-false n 10 t in rw (t, enough f g (n / 10) (omega arith) (omega arith)))

-- a number below 10 is one digit
pub decimal_one : (n : ℕ) → n < 10 → decimal n ≡ (48 + n) ∷ []
unfolding decimal decimal_in
decimal_one n h = let e : n % 10 ≡ n = omega arith in rw (lt-ltb n 10 h, e)

pub decimal_step : (n : ℕ) → 10 ≤ n → decimal n ≡ decimal (n / 10) ++ (last_digit n ∷ [])
unfolding decimal decimal_in
decimal_step n h = rw (le-ltb n 10 h, enough n (suc (n / 10)) (n / 10) (omega arith) (omega arith))

-- every other is what is in front of its last digit, and that digit
pub decimal_more : (q r : ℕ) → 0 < q → r < 10 → decimal (10 * q + r) ≡ decimal q ++ ((48 + r) ∷ [])
decimal_more q r h k =
    let a : (10 * q + r) / 10 ≡ q = omega arith in
    let b : (10 * q + r) % 10 ≡ r = omega arith in
    decimal_step (10 * q + r) (omega arith) ∙ rw (a, b)

-- ── rows ─────────────────────────────────────────────────────────────────────────────────────────────────────────────────────

-- the numbers of a cord fit the bytes of a row
pub record Fits (c : Cord) : Type 0 where
  pub fits_a : port_a_of c < 65536
  pub fits_b : port_b_of c < 65536
  pub fits_metres : c.metres < 65536

row-length : (c : Cord) → length (map_row c) ≡ 8
unfolding map_row bytes16
row-length c = refl

row_back : (c : Cord) → Fits c → row_cord (map_row c) ≡ c
unfolding row_cord map_row bytes16
row_back c f =
    let a : port_a_of c / 256 % 256 * 256 + port_a_of c % 256 ≡ port_a_of c = omega (arith, f.fits_a) in
    let b : port_b_of c / 256 % 256 * 256 + port_b_of c % 256 ≡ port_b_of c = omega (arith, f.fits_b) in
    let m : c.metres / 256 % 256 * 256 + c.metres % 256 ≡ c.metres = omega (arith, f.fits_metres) in
    λ i. record { port_a = a i; port_b = b i; kind_a = kind_a_of c; kind_b = kind_b_of c; metres = m i }

all_back : (cs : List Cord) → ((c : Cord) → Memᴰ c cs → Fits c) → map row_cord (map map_row cs) ≡ cs
all_back [] h = refl
all_back (c ∷ cs) h =
    rw (row_back c (h c (Memᴰ.head refl)), all_back cs (λ d m. h d (Memᴰ.tail m)))

-- the map call's rows, read back
pub rows_back : (cs : List Cord) → ((c : Cord) → Memᴰ c cs → Fits c) → rows_in (flatten (map map_row cs)) ≡ cs
unfolding rows_in
rows_back cs h =
    let l = map map_row cs in
    let wide : AllOfLength 8 l = λ x m. let r = Memᴰ.of_map map_row cs m in ap length (sym r.2) ∙ row-length r.0 in
    let size : length (flatten l) / 8 ≡ length l = omega (arith, length-flatten 8 l wide) in
    rw size
    (ap (λ (s : Bytes). map row_cord (chunks 8 s (length l))) (sym (append-nil (flatten l)))
    ∙ ap (map row_cord) (chunks-flatten 8 l [] wide)
    ∙ all_back cs h)

-- ── the text of a set of events ──────────────────────────────────────────────────────────────────────────────────────────────

module _ {A : Type 0} where
  -- sorting keeps the number of those that pass a test
  keep_insert : (p : A → Bool) (key : A → Bytes) (a : A) (l : List A) → length (keep p (insert_by key a l)) ≡ length (keep p (a ∷ l))
  keep_insert p key a [] = refl
  keep_insert p key a (x ∷ xs) =
      by_bool (precedes (key a) (key x)) (λ e. rw e) (λ e. rw e (
      let rest = keep_insert p key a xs in
      by_bool (p x)
      (λ t. by_bool (p a) (λ u. rw (t, u) (ap suc (rest ∙ rw u))) (λ g. rw (t, g) (ap suc (rest ∙ rw g))))
      (λ f. by_bool (p a) (λ u. rw (f, u) (rest ∙ rw u)) (λ g. rw (f, g) (rest ∙ rw g)))))

  keep_sort : (p : A → Bool) (key : A → Bytes) (l : List A) → length (keep p (sort_by key l)) ≡ length (keep p l)
  keep_sort p key [] = refl
  keep_sort p key (x ∷ xs) =
      let rest = keep_sort p key xs in
      keep_insert p key x (sort_by key xs) ∙ by_bool (p x) (λ t. rw t (ap suc rest)) (λ f. rw f rest)

  pub many_sorted : (k : ℕ) (f : A → ℕ) (key : A → Bytes) (l : List A) → how_many k (map f (sort_by key l)) ≡ how_many k (map f l)
  unfolding how_many
  many_sorted k f key l = many (sort_by key l) ∙ keep_sort (λ x. eqb (f x) k) key l ∙ sym (many l)
    where
      many : (l : List A) → length (keep (λ x. eqb x k) (map f l)) ≡ length (keep (λ x. eqb (f x) k) l)
      many l = ap length (keep-map (λ x. eqb x k) f l) ∙ length-map (keep (λ x. eqb (f x) k) l) f

-- from the map call's rows and the verdicts of the events, in any order, comes the text of the set
pub text_of_set : (s : List Event) (rows : Bytes) (verdicts : List ℕ) → rows ≡ map_bytes (view s)
    → verdicts ≡ map (λ e. verdict (view s) e.ident) s → ((c : Cord) → Memᴰ c (map_rows (view s)) → Fits c) → text_of rows verdicts ≡ room_text (view s)
unfolding text_of room_text map_bytes
text_of_set s rows verdicts p q h =
    rw (
      p,
      q,
      rows_back (map_rows (view s)) h,
      ← many_sorted 0 (λ e. verdict (view s) e.ident) (λ e. e.ident) s,
      ← many_sorted 1 (λ e. verdict (view s) e.ident) (λ e. e.ident) s,
      ← many_sorted 2 (λ e. verdict (view s) e.ident) (λ e. e.ident) s,
    )

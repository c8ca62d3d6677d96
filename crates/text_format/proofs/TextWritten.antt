-- The text written piece by piece: numbers, one piece behind another, lines, counts, and the whole.
use Prim.Native.Nat.{ℕ, ◌+◌, ◌*◌, ◌/◌, ◌≤◌, ◌<◌}
use native.Mathlib.Omega.{arith}
use mathlib.Core.Path.{◌≡◌, refl, sym, ap, ◌∙◌}
use mathlib.Core.List.{List, [], ◌∷◌, ◌++◌, map, map-append, flatten, append_assoc}
use lib.Dec.{eqb}
use lib.ListN.{length, take, drop, length-append, length-map, length-drop, take-append-drop}
use lib.Seq.{length-take-le, take_at, drop_at}
use Rattle.std.specs.List.{count_by}
use Rattle.std.proofs.lemmas.List.{drop-drop}
use Rattle.std.proofs.lemmas.List.Recursion.{is_count_by}
use borrow.Author.Tests.{le-leb, lt-leb}
use Rattle.lists.specs.Cases.{by_bool}
use Rattle.lists.specs.Bytes.{Bytes}
use Rattle.lists.specs.Tests.{keep}
use Rattle.lists.specs.Chunks.{chunks, length-chunks, chunks_last, flatten_last}
use Rattle.octets.specs.Octets.{byte_at, be16, part, pasted}
use Rattle.event.specs.Contents.{cord_at}
use Rattle.event.specs.Answers.{value, refused}
use Rattle.model.specs.Output.{overwritten, overwritten_none, overwritten_front, overwritten_more}
use Rattle.text_format.specs.Text.{decimal, digits, field, row_line, how_many, row_cord, rows_in, text_of, answer_of, output_of}
use Rattle.text_format.specs.Steps.{head_of}
use Rattle.text_format.specs.Sizes.{field_most, line-length, lines-length, text_parts, text-length}

-- ── pieces written one behind another ────────────────────────────────────────────────────────────────────────────────────────

-- an output with the text r at its front, and x behind it
pub behind : (r x o : Bytes) (at : ℕ) → at ≡ length r → at + length x ≤ length o → pasted (overwritten r o) at x ≡ overwritten (r ++ x) o
behind r x o at e h = rw e (overwritten_more r x o (omega (arith, e)))

pub at_front : (o x : Bytes) → length x ≤ length o → pasted o 0 x ≡ overwritten x o
at_front o x h = ap (λ (d : Bytes). pasted d 0 x) (overwritten_none o) ∙ behind [] x o 0 refl (omega arith)

pub two_pieces : (o x y : Bytes) (at : ℕ) → at ≡ length x → at + length y ≤ length o → pasted (pasted o 0 x) at y ≡ overwritten (x ++ y) o
two_pieces o x y at e h = ap (λ (d : Bytes). pasted d at y) (at_front o x (omega (arith, e))) ∙ behind x y o at e h

-- the same behind any offset
over : (o x : Bytes) (at : ℕ) → at + length x ≤ length o → pasted o at x ≡ overwritten (take at o ++ x) o
unfolding overwritten
over o x at h =
    let l : length (take at o) ≡ at = length-take-le at o (omega arith) in
    let whole : o ≡ overwritten (take at o) o = sym (rw l (take-append-drop at o)) in
    ap (λ (d : Bytes). pasted d at x) whole
    ∙ ap (λ (k : ℕ). pasted (overwritten (take at o) o) k x) (sym l)
    ∙ overwritten_more (take at o) x o (omega arith)

pasted_behind : (o x y : Bytes) (at k : ℕ) → k ≡ at + length x → k + length y ≤ length o
    → pasted (pasted o at x) k y ≡ pasted o at (x ++ y)
pasted_behind o x y at k e h =
    let l : length (take at o) ≡ at = length-take-le at o (omega arith) in
    let m = length-append (take at o) x in
    let n = length-append x y in
    ap (λ (d : Bytes). pasted d k y) (over o x at (omega arith))
    ∙ ap (λ (j : ℕ). pasted (overwritten (take at o ++ x) o) j y) (omega arith)
    ∙ overwritten_more (take at o ++ x) y o (omega arith)
    ∙ ap (λ (b : Bytes). overwritten b o) (append_assoc (take at o) x y)
    ∙ sym (over o (x ++ y) at (omega arith))

pub field_behind : (o word : Bytes) (at n : ℕ) → at + length (field word n) ≤ length o
    → pasted (pasted o at word) (at + length word) (decimal n) ≡ pasted o at (field word n)
unfolding field
field_behind o word at n h = pasted_behind o word (decimal n) at (at + length word) refl (omega (arith, length-append word (decimal n)))

pub field_length : (word : Bytes) (n : ℕ) → length (field word n) ≡ length word + length (decimal n)
unfolding field
field_length word n = length-append word (decimal n)

-- of at most five digits, and of at most three
pub field_five : (word : Bytes) (n : ℕ) → n < 65536 → length (field word n) ≤ length word + 5
field_five word n h = field_most word 4 n (omega arith)

pub field_three : (word : Bytes) (n : ℕ) → n < 256 → length (field word n) ≤ length word + 3
field_three word n h = field_most word 2 n (omega arith)

-- ── lines ────────────────────────────────────────────────────────────────────────────────────────────────────────────────────

-- the lines of the first i rows
unfoldable pub lines : Bytes → ℕ → Bytes
lines rows i = flatten (map row_line (map row_cord (chunks 8 rows i)))

lines_size : (rows : Bytes) (i : ℕ) → length (lines rows i) ≡ i * 22
unfolding lines
lines_size rows i =
    lines-length (map row_cord (chunks 8 rows i))
    ∙ ap (λ (k : ℕ). k * 22) (length-map (chunks 8 rows i) row_cord ∙ length-chunks 8 rows i)

lines_next : (rows : Bytes) (i : ℕ) → lines rows (i + 1) ≡ lines rows i ++ row_line (row_cord (part rows (i * 8) 8))
unfolding lines
lines_next rows i =
    rw (
      chunks_last 8 rows i,
      map-append row_cord (chunks 8 rows i) (part rows (i * 8) 8 ∷ []),
      map-append row_line (map row_cord (chunks 8 rows i)) (row_cord (part rows (i * 8) 8) ∷ []),
    )
    (flatten_last (map row_line (map row_cord (chunks 8 rows i))) (row_line (row_cord (part rows (i * 8) 8))))

pub lines_start : (rows o : Bytes) (at : ℕ) → at ≤ length o → o ≡ pasted o at (lines rows 0)
unfolding lines flatten chunks pasted
lines_start rows o at h =
    let e : at + 0 ≤ length o = omega arith in
    rw (le-leb (at + 0) (length o) e) (sym (take-append-drop at o))

-- the row behind the first k, and what is left behind it
pub row_next : (rows rest row left : Bytes) (k : ℕ) → rest ≡ drop (k * 8) rows → rest ≡ row ++ left → length row ≡ 8
    → (row ≡ part rows (k * 8) 8) × (left ≡ drop ((k + 1) * 8) rows) × (k < length rows / 8)
row_next rows rest row left k e q h =
    let cut : drop (k * 8) rows ≡ row ++ left = sym e ∙ q in
    let z : (k + 1) * 8 ≡ k * 8 + 8 = omega arith in
    let size = ap length cut in (
      sym (ap (take 8) cut ∙ take_at row left 8 h),
      sym (rw z (rw (← drop-drop) (ap (drop 8) cut ∙ drop_at row left 8 h))),
      omega (arith, size, length-append row left, length-drop (k * 8) rows),
    )

-- no row is left
pub no_row : (rows rest : Bytes) (k : ℕ) → rest ≡ drop (k * 8) rows → k ≤ length rows / 8 → length rest < 8 → k ≡ length rows / 8
no_row rows rest k e w h = let size = ap length e in omega (arith, size, length-drop (k * 8) rows)

pub lines_turn : (rows o d e t : Bytes) (at i n : ℕ) → i < n → at + n * 22 ≤ length o → d ≡ pasted o at (lines rows i)
    → t ≡ row_line (row_cord (part rows (i * 8) 8)) → e ≡ pasted d (at + i * 22) t → e ≡ pasted o at (lines rows (i + 1))
lines_turn rows o d e t at i n h room q qt qe =
    let x = lines rows i in
    let y = row_line (row_cord (part rows (i * 8) 8)) in
    let lx = lines_size rows i in
    let ly = line-length (row_cord (part rows (i * 8) 8)) in
    qe
    ∙ ap (λ (b : Bytes). pasted b (at + i * 22) t) q
    ∙ ap (λ (b : Bytes). pasted (pasted o at x) (at + i * 22) b) qt
    ∙ pasted_behind o x y at (at + i * 22) (omega arith) (omega arith)
    ∙ ap (pasted o at) (sym (lines_next rows i))

pub lines_end : (rows : Bytes) (i : ℕ) → i ≡ length rows / 8 → lines rows i ≡ flatten (map row_line (rows_in rows))
unfolding lines rows_in
lines_end rows i e = rw e

-- ── a line from its parts ────────────────────────────────────────────────────────────────────────────────────────────────────

-- "0000 0000 00 00 00000" and a line feed
abbrev pub blank : Bytes
blank = 48 ∷ 48 ∷ 48 ∷ 48 ∷ 32 ∷ 48 ∷ 48 ∷ 48 ∷ 48 ∷ 32 ∷ 48 ∷ 48 ∷ 32 ∷ 48 ∷ 48 ∷ 32 ∷ 48 ∷ 48 ∷ 48 ∷ 48 ∷ 48 ∷ 10 ∷ []

-- five numbers filled into a line of zeros
line_at : (a b j k m : ℕ)
    → pasted (pasted (pasted (pasted (pasted blank 0 (digits 4 a)) 5 (digits 4 b)) 10 (digits 2 j)) 13 (digits 2 k)) 16 (digits 5 m)
    ≡ row_line (cord_at a b j k m)
unfolding row_line digits pasted
line_at a b j k m = refl

pub line_of : (x : Bytes)
    → pasted (pasted (pasted (pasted (pasted blank 0 (digits 4 (be16 x 0))) 5 (digits 4 (be16 x 2))) 10 (digits 2 (byte_at x 4))) 13 (digits 2 (byte_at x 5))) 16 (digits 5 (be16 x 6))
    ≡ row_line (row_cord x)
unfolding row_cord
line_of x = line_at (be16 x 0) (be16 x 2) (byte_at x 4) (byte_at x 5) (be16 x 6)

-- ── counts ───────────────────────────────────────────────────────────────────────────────────────────────────────────────────

module _ {A : Type 0} (f : A → ℕ) where
  pub how_many_by : (k : ℕ) (l : List A) → count_by (λ x. eqb (f x) k) l ≡ how_many k (map f l)
  unfolding how_many
  how_many_by k l =
      sym (is_count_by (λ (xs : List A). length (keep (λ x. eqb x k) (map f xs))) (λ x. eqb (f x) k) refl
      (λ x xs. by_bool (eqb (f x) k) (λ t. rw t (omega arith)) (λ e. rw e)) l)

-- ── the text ─────────────────────────────────────────────────────────────────────────────────────────────────────────────────

-- `write_text`: a first line that ends at an offset, and what the output then is
module _ (rows : Bytes) (verdicts : List ℕ) (o : Bytes) (at : ℕ) (size : at ≡ length (head_of (length rows / 8) verdicts)) where
  pub text_short : length o < at + length rows / 8 * 22
      → (refused 10 ≡ answer_of (text_of rows verdicts) o) × (o ≡ output_of (text_of rows verdicts) o)
  unfolding answer_of output_of
  text_short h =
      let e = lt-leb (length (text_of rows verdicts)) (length o) (omega (arith, text-length rows verdicts)) in
      (rw e, rw e)

  pub text_written : (b head d e : Bytes) → at + length rows / 8 * 22 ≤ length o
      → head ≡ overwritten (head_of (length rows / 8) verdicts) b → d ≡ pasted o 0 (part head 0 at)
      → e ≡ pasted d at (flatten (map row_line (rows_in rows)))
      → (value (at + length rows / 8 * 22) ≡ answer_of (text_of rows verdicts) o) × (e ≡ output_of (text_of rows verdicts) o)
  unfolding answer_of output_of
  text_written b head d e room qh qd qe =
      let h = head_of (length rows / 8) verdicts in
      let ls = flatten (map row_line (rows_in rows)) in
      let long = text-length rows verdicts in
      let fits = le-leb (length (text_of rows verdicts)) (length o) (omega arith) in
      let first = qd ∙ ap (pasted o 0) (overwritten_front h b head at size qh) ∙ at_front o h (omega arith) in
      let behind_first : length h + length ls ≤ length o = omega (arith, ap length (text_parts rows verdicts), length-append h ls) in
      let both = qe ∙ ap (λ (x : Bytes). pasted x at ls) first ∙ behind h ls o at size (omega (arith, behind_first)) in (
        rw fits (ap value (omega arith)),
        rw fits (both ∙ ap (λ (x : Bytes). overwritten x o) (sym (text_parts rows verdicts))),
      )

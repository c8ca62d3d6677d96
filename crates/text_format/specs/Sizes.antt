-- How many bytes the text has.
use Rattle.std.specs.Prelude.{ℕ, zero, suc, ◌+◌, ◌*◌, ◌/◌, ◌^◌, ◌≤◌, ◌<◌, ◌≡◌, refl, eqb, ltb, length}
use Rattle.std.proofs.Common.{arith, pow-suc, sym, ap, ◌∙◌, length-append, ltb-true, ltb-false}
use mathlib.Core.List.Memᴰ
use mathlib.Core.List.{List, [], ◌∷◌, ◌++◌, map, flatten}
use Rattle.std.proofs.lemmas.List.{length-map}
use Rattle.lists.specs.Cases.{by_bool}
use Rattle.lists.specs.Bytes.{Bytes}
use Rattle.lists.specs.Tests.{keep}
use Rattle.lists.specs.Chunks.{chunks, length-chunks, length-flatten}
use Rattle.event.specs.declared.Cord.{Cord}
use Rattle.text_format.specs.Text.{
  last_digit,
  decimal,
  digits,
  links_word,
  waiting_word,
  unsound_word,
  void_word,
  line_feed,
  field,
  head_line,
  row_line,
  text_from,
  how_many,
  row_cord,
  rows_in,
  text_of,
}
use Rattle.text_format.specs.Steps.{head_of}
use Rattle.text_format.specs.TextLaws.{decimal_one, decimal_step}

-- a number below the power of 10 has at most as many digits as it has zeros
pub decimal_most : (k n : ℕ) → n < 10 ^ suc k → length (decimal n) ≤ suc k
decimal_most zero n h = let e = ap length (decimal_one n h) in omega arith
decimal_most (suc k) n h =
    by_bool (ltb n 10)
    (λ t. let e = ap length (decimal_one n (ltb-true n 10 t)) in omega arith)
    (λ f.
    let m : n < 10 ^ suc k * 10 = rw (pow-suc 10 (suc k)) at h in
    let l : 10 ≤ n = ltb-false n 10 f in
    let r = decimal_most k (n / 10) (omega arith) in
    let e = ap length (decimal_step n l) ∙ length-append (decimal (n / 10)) (last_digit n ∷ []) in
    omega arith)

pub field_most : (word : Bytes) (k n : ℕ) → n < 10 ^ suc k → length (field word n) ≤ length word + suc k
unfolding field
field_most word k n h = omega (arith, length-append word (decimal n), decimal_most k n h)

-- the first line, of numbers of at most five digits
pub head_most : (links waiting unsound void : ℕ) → links < 65536 → waiting < 65536 → unsound < 65536 → void < 65536
    → length (head_line links waiting unsound void) ≤ 51
unfolding head_line
head_most links waiting unsound void a b c d =
    let w = field links_word links in
    let x = field waiting_word waiting in
    let y = field unsound_word unsound in
    let z = field void_word void in
    omega (
      arith,
      length-append (w ++ x ++ y ++ z) line_feed,
      length-append (w ++ x ++ y) z,
      length-append (w ++ x) y,
      length-append w x,
      field_most links_word 4 links (omega arith),
      field_most waiting_word 4 waiting (omega arith),
      field_most unsound_word 4 unsound (omega arith),
      field_most void_word 4 void (omega arith),
    )

pub line-length : (c : Cord) → length (row_line c) ≡ 22
unfolding row_line digits
line-length c = refl

pub lines-length : (cs : List Cord) → length (flatten (map row_line cs)) ≡ length cs * 22
lines-length cs =
    length-flatten 22 (map row_line cs) (λ x m. let r = Memᴰ.of_map row_line cs m in ap length (sym r.2) ∙ line-length r.0)
    ∙ ap (λ (k : ℕ). k * 22) (length-map cs row_line)

rows_length : (rows : Bytes) → length (rows_in rows) ≡ length rows / 8
unfolding rows_in
rows_length rows = length-map (chunks 8 rows (length rows / 8)) row_cord ∙ length-chunks 8 rows (length rows / 8)

pub text_parts : (rows : Bytes) (verdicts : List ℕ)
    → text_of rows verdicts ≡ head_of (length rows / 8) verdicts ++ flatten (map row_line (rows_in rows))
unfolding text_of text_from head_of
text_parts rows verdicts = rw (rows_length rows)

pub text-length : (rows : Bytes) (verdicts : List ℕ)
    → length (text_of rows verdicts) ≡ length (head_of (length rows / 8) verdicts) + length rows / 8 * 22
text-length rows verdicts =
    ap length (text_parts rows verdicts)
    ∙ length-append (head_of (length rows / 8) verdicts) (flatten (map row_line (rows_in rows)))
    ∙ ap (λ (k : ℕ). length (head_of (length rows / 8) verdicts) + k)
    (lines-length (rows_in rows) ∙ ap (λ (k : ℕ). k * 22) (rows_length rows))

keep_most : (k : ℕ) (l : List ℕ) → length (keep (λ x. eqb x k) l) ≤ length l
keep_most k [] = omega arith
keep_most k (x ∷ xs) = let r = keep_most k xs in by_bool (eqb x k) (λ t. rw t (omega arith)) (λ f. rw f (omega arith))

-- an output of this size takes the text
pub text_most : (rows : Bytes) (verdicts : List ℕ) → length rows ≤ 2048 → length verdicts ≤ 256
    → length (text_of rows verdicts) ≤ 51 + length rows / 8 * 22
unfolding head_of how_many
text_most rows verdicts h k =
    let a = keep_most 0 verdicts in
    let b = keep_most 1 verdicts in
    let c = keep_most 2 verdicts in
    let m =
    head_most (length rows / 8) (how_many 0 verdicts) (how_many 1 verdicts) (how_many 2 verdicts)
    (omega arith) (omega arith) (omega arith) (omega arith) in
    omega (arith, text-length rows verdicts)

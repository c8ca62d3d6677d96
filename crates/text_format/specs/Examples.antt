-- Example 12's lines, and lines with more digits, by computation.
use Rattle.std.specs.Prelude.{◌≡◌, refl}
use mathlib.Core.List.{[], ◌∷◌, ◌++◌, flatten}
use Rattle.lists.specs.Bytes.{Bytes}
use Rattle.event.specs.Contents.{cord_at}
use Rattle.text_format.specs.Text.{decimal_in, decimal, digits, field, refusal_line, head_line, row_line, text_from}

-- "LINKS 1 WAITING 0 UNSOUND 0 VOID 0" and a line feed
abbrev first_line : Bytes
first_line =
    76 ∷ 73 ∷ 78 ∷ 75 ∷ 83 ∷ 32 ∷ 49 ∷ 32 ∷ 87 ∷ 65 ∷ 73 ∷ 84 ∷ 73 ∷ 78 ∷ 71 ∷ 32 ∷ 48 ∷ 32 ∷ 85 ∷ 78 ∷ 83 ∷ 79 ∷ 85 ∷ 78 ∷ 68
    ∷ 32 ∷ 48 ∷ 32 ∷ 86 ∷ 79 ∷ 73 ∷ 68 ∷ 32 ∷ 48 ∷ 10 ∷ []

-- "0003 0007 04 05 00012" and a line feed
abbrev second_line : Bytes
second_line =
    48 ∷ 48 ∷ 48 ∷ 51 ∷ 32 ∷ 48 ∷ 48 ∷ 48 ∷ 55 ∷ 32 ∷ 48 ∷ 52 ∷ 32 ∷ 48 ∷ 53 ∷ 32 ∷ 48 ∷ 48 ∷ 48 ∷ 49 ∷ 50 ∷ 10 ∷ []

example_head : head_line 1 0 0 0 ≡ first_line
unfolding head_line field decimal decimal_in
example_head = refl

example_row : row_line (cord_at 3 7 4 5 12) ≡ second_line
unfolding row_line digits
example_row = refl

-- "it writes these two lines and no more"
example_text : text_from 0 0 0 (cord_at 3 7 4 5 12 ∷ []) ≡ first_line ++ second_line
unfolding text_from head_line field decimal decimal_in row_line digits flatten
example_text = refl

-- the line 1023 0000 15 10 10000
full_row : row_line (cord_at 1023 0 15 10 10000)
    ≡ 49 ∷ 48 ∷ 50 ∷ 51 ∷ 32 ∷ 48 ∷ 48 ∷ 48 ∷ 48 ∷ 32 ∷ 49 ∷ 53 ∷ 32 ∷ 49 ∷ 48 ∷ 32 ∷ 49 ∷ 48 ∷ 48 ∷ 48 ∷ 48 ∷ 10 ∷ []
unfolding row_line digits
full_row = refl

-- the line LINKS 10 WAITING 255 UNSOUND 100 VOID 9
longer_head : head_line 10 255 100 9
    ≡ 76 ∷ 73 ∷ 78 ∷ 75 ∷ 83 ∷ 32 ∷ 49 ∷ 48 ∷ 32 ∷ 87 ∷ 65 ∷ 73 ∷ 84 ∷ 73 ∷ 78 ∷ 71 ∷ 32 ∷ 50 ∷ 53 ∷ 53 ∷ 32 ∷ 85 ∷ 78 ∷ 83 ∷ 79
    ∷ 85 ∷ 78 ∷ 68 ∷ 32 ∷ 49 ∷ 48 ∷ 48 ∷ 32 ∷ 86 ∷ 79 ∷ 73 ∷ 68 ∷ 32 ∷ 57 ∷ 10 ∷ []
unfolding head_line field decimal decimal_in
longer_head = refl

-- the lines REFUSED 8 and REFUSED 10
example_refusal : refusal_line 8 ≡ 82 ∷ 69 ∷ 70 ∷ 85 ∷ 83 ∷ 69 ∷ 68 ∷ 32 ∷ 56 ∷ 10 ∷ []
unfolding refusal_line field decimal decimal_in
example_refusal = refl

longer_refusal : refusal_line 10 ≡ 82 ∷ 69 ∷ 70 ∷ 85 ∷ 83 ∷ 69 ∷ 68 ∷ 32 ∷ 49 ∷ 48 ∷ 10 ∷ []
unfolding refusal_line field decimal decimal_in
longer_refusal = refl

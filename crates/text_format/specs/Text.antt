-- The text of the printing program, by document 01's example 12 and the sentences under it.
use Rattle.std.specs.Prelude.{ℕ, zero, suc, ◌+◌, ◌/◌, ◌%◌, ◌≡◌, refl, cond, eqb, leb, ltb, length, Option, Some, None}
use Rattle.std.proofs.Common.{arith, ap}
use mathlib.Core.List.{List, [], ◌∷◌, ◌++◌, map, flatten}
use Rattle.lists.specs.Bytes.{Bytes}
use Rattle.lists.specs.Tests.{keep}
use Rattle.lists.specs.Chunks.{chunks}
use Rattle.octets.specs.Octets.{byte_at, be16}
use Rattle.event.specs.declared.Cord.{Cord}
use Rattle.event.specs.Answers.{Answer, value, refused}
use Rattle.event.specs.Contents.{port_a_of, port_b_of, kind_a_of, kind_b_of, cord_at}
use Rattle.model.specs.Heights.{View}
use Rattle.model.specs.Verdicts.{verdict}
use Rattle.model.specs.Map.{map_rows}
use Rattle.model.specs.Output.{overwritten}

-- the last digit of a number, as a character ("0" is 48)
abbrev pub last_digit : ℕ → ℕ
last_digit n = 48 + n % 10

-- "without leading zeros": at most f digits
unfoldable pub decimal_in : ℕ → ℕ → Bytes
decimal_in zero n = []
decimal_in (suc f) n = cond (ltb n 10) (last_digit n ∷ []) (decimal_in f (n / 10) ++ (last_digit n ∷ []))

-- n has fewer than n + 1 digits, or is 0: all of them (TextLaws.decimal_one and decimal_more say so without the bound)
unfoldable pub decimal : ℕ → Bytes
decimal n = decimal_in (suc n) n

-- "in decimal, filled with zeros": the last k digits
unfoldable pub digits : ℕ → ℕ → Bytes
digits zero n = []
digits (suc k) n = digits k (n / 10) ++ (last_digit n ∷ [])

-- "LINKS "
abbrev pub links_word : Bytes
links_word = 76 ∷ 73 ∷ 78 ∷ 75 ∷ 83 ∷ 32 ∷ []

-- " WAITING "
abbrev pub waiting_word : Bytes
waiting_word = 32 ∷ 87 ∷ 65 ∷ 73 ∷ 84 ∷ 73 ∷ 78 ∷ 71 ∷ 32 ∷ []

-- " UNSOUND "
abbrev pub unsound_word : Bytes
unsound_word = 32 ∷ 85 ∷ 78 ∷ 83 ∷ 79 ∷ 85 ∷ 78 ∷ 68 ∷ 32 ∷ []

-- " VOID "
abbrev pub void_word : Bytes
void_word = 32 ∷ 86 ∷ 79 ∷ 73 ∷ 68 ∷ 32 ∷ []

-- "REFUSED "
abbrev pub refused_word : Bytes
refused_word = 82 ∷ 69 ∷ 70 ∷ 85 ∷ 83 ∷ 69 ∷ 68 ∷ 32 ∷ []

-- "Each line, the refusal's too, ends in a line feed."
abbrev pub line_feed : Bytes
line_feed = 10 ∷ []

abbrev pub space : Bytes
space = 32 ∷ []

-- a word and its number
unfoldable pub field : Bytes → ℕ → Bytes
field word n = word ++ decimal n

-- "a refusal writes "REFUSED " and the number"
unfoldable pub refusal_line : ℕ → Bytes
refusal_line n = field refused_word n ++ line_feed

-- "The first line counts links and verdicts, without leading zeros"
unfoldable pub head_line : ℕ → ℕ → ℕ → ℕ → Bytes
head_line links waiting unsound void =
    field links_word links ++ field waiting_word waiting ++ field unsound_word unsound ++ field void_word void ++ line_feed

-- "then one line a map row, ports, kinds, metres, in decimal, filled with zeros to 4, 2 and 5 digits"
unfoldable pub row_line : Cord → Bytes
row_line c =
    digits 4 (port_a_of c) ++ space ++ digits 4 (port_b_of c) ++ space ++ digits 2 (kind_a_of c) ++ space ++ digits 2 (kind_b_of c) ++ space
    ++ digits 5 c.metres ++ line_feed

-- the whole text: the numbers of waiting, unsound and void events, and the map's rows
unfoldable pub text_from : ℕ → ℕ → ℕ → List Cord → Bytes
text_from waiting unsound void rows = head_line (length rows) waiting unsound void ++ flatten (map row_line rows)

-- how many of some verdicts are k
unfoldable pub how_many : ℕ → List ℕ → ℕ
how_many k verdicts = length (keep (λ x. eqb x k) verdicts)

-- the text of a set of events
unfoldable pub room_text : View → Bytes
room_text v =
    let verdicts = map (λ e. verdict v e.ident) v.by_id in
    text_from (how_many 0 verdicts) (how_many 1 verdicts) (how_many 2 verdicts) (map_rows v)

-- the cord of a row of the map call (model's Rows.map_row), and those of all rows
unfoldable pub row_cord : Bytes → Cord
row_cord x = cord_at (be16 x 0) (be16 x 2) (byte_at x 4) (byte_at x 5) (be16 x 6)

unfoldable pub rows_in : Bytes → List Cord
rows_in s = map row_cord (chunks 8 s (length s / 8))

-- the text of the map call's rows and of one verdict an event
unfoldable pub text_of : Bytes → List ℕ → Bytes
text_of rows verdicts = text_from (how_many 0 verdicts) (how_many 1 verdicts) (how_many 2 verdicts) (rows_in rows)

-- what is answered, and what stands in the output then: a text that does not fit is not begun (10: "output too short")
unfoldable pub answer_of : Bytes → Bytes → Answer ℕ
answer_of text out = cond (leb (length text) (length out)) (value (length text)) (refused 10)

unfoldable pub output_of : Bytes → Bytes → Bytes
output_of text out = cond (leb (length text) (length out)) (overwritten text out) out

-- document 01's answer for each case of the code's: the number of bytes, or none where the output is too short
abbrev pub answer_of_printed : Option ℕ → Answer ℕ
answer_of_printed (Some n) = value n
answer_of_printed None = refused 10

pub printed_injective : (a b : Option ℕ) → answer_of_printed a ≡ answer_of_printed b → a ≡ b
printed_injective (Some m) (Some n) e = let same : m ≡ n = cc in ap Some same
printed_injective (Some m) None e = let z : ◌≡◌ {A = ℕ} 0 1 = cc in absurd (omega arith)
printed_injective None (Some n) e = let z : ◌≡◌ {A = ℕ} 0 1 = cc in absurd (omega arith)
printed_injective None None e = refl

-- What a call shows to C: a number returned, and numbers behind pointers. The definitions of the calls are those of `takes`, `tally`,
-- `store`, `reports` and `text`; here each answer is turned into numbers. The ids of events are defined here.
use Rattle.std.specs.Prelude.{ℕ, ◌*◌, ◌/◌, ◌&&◌, eqb, leb, length}
use mathlib.Core.List.{List, [], ◌∷◌, ◌++◌, map, flatten}
use Rattle.lists.specs.Bytes.{Bytes}
use Rattle.lists.specs.Chunks.{chunks}
use Rattle.sha256.specs.Sha256.{sha256}
use Rattle.cords.specs.DocumentTable.{document_table}
use Rattle.event.specs.Answers.{Answer, value, refused, shown_number, Test, must, first_failed}
use Rattle.takes.specs.declared.Tally.{Tally}
use Rattle.takes.specs.declared.Placed.{Placed}
use Rattle.takes.specs.Takes.{Left}
use Rattle.takes.specs.Numbers.{placed_number, figure_list}
use Rattle.tally.specs.Tallies.{Tallied}
use Rattle.reports.specs.declared.MapFigures.{MapFigures}
use Rattle.reports.specs.Reports.{output_tests, Report, report}

-- the version 2.0.0 as one number: 10,000 × major + 100 × minor + patch
abbrev pub version : ℕ
version = 20000

-- what a pointer shows after a call: the value, or what it showed before
abbrev pub kept : {A B : Type 0} → (A → B) → B → Answer A → B
kept shown before (value a) = shown a
kept shown before (refused n) = before

-- what a call shows: the number that it returns, the store or the output that it leaves ([] where it writes neither), and the numbers behind
-- pointers, in the order of its parameters
pub record Shown : Type 0 where
  pub number : ℕ
  pub buffer : Bytes
  pub behind : List ℕ

-- an answer that is one number
abbrev pub show_value : ℕ → Answer ℕ → Shown
show_value before a = record { number = shown_number a; buffer = []; behind = kept (λ n. n) before a ∷ [] }

-- an output and one number
abbrev pub show_count : ℕ → Report ℕ → Shown
show_count before r = record { number = shown_number r.answer; buffer = r.out; behind = kept (λ n. n) before r.answer ∷ [] }

-- an output alone
abbrev pub show_output : Report Unit → Shown
show_output r = record { number = shown_number r.answer; buffer = r.out; behind = [] }

-- the map's figures
abbrev pub map_list : MapFigures → List ℕ
map_list f = f.rows ∷ f.ended ∷ f.joins ∷ []

abbrev pub show_map : List ℕ → Report MapFigures → Shown
show_map before r = record { number = shown_number r.answer; buffer = r.out; behind = kept map_list before r.answer }

-- a start: the count
abbrev pub show_start : Left Placed → Shown
show_start left = record { number = shown_number left.answer; buffer = left.store; behind = left.count ∷ [] }

-- a take: the count and `repeat`
abbrev pub show_take : ℕ → Left Placed → Shown
show_take before left =
    record {
      number = shown_number left.answer;
      buffer = left.store;
      behind = left.count ∷ kept placed_number before left.answer ∷ [];
    }

-- a bundle: the count and three figures
abbrev pub show_bundle : List ℕ → Left Tally → Shown
show_bundle before left =
    record { number = shown_number left.answer; buffer = left.store; behind = left.count ∷ kept figure_list before left.answer }

-- with a tally: its three figures too
abbrev pub show_tallied : {A : Type 0} → (Left A → Shown) → Tallied A → Shown
show_tallied show t =
    let s = show t.left in
    record { number = s.number; buffer = s.buffer; behind = s.behind ++ figure_list t.tally }

-- bytes at the front of an output: 10, "output too short"
abbrev pub written : Bytes → Bytes → Report Unit
written bytes out = report (first_failed (output_tests bytes out)) tt bytes out

-- document 01's cord table: 10, "output too short"
unfoldable pub document_of : Bytes → Report Unit
document_of out = report (first_failed (must 10 (leb 512 (length out)) ∷ [])) tt document_table out

-- the id of an event: 1: "an offered event not 192 bytes"; 10: "output too short"
abbrev pub id_tests : Bytes → Bytes → List Test
id_tests event out = must 1 (eqb (length event) 192) ∷ must 10 (leb 32 (length out)) ∷ []

unfoldable pub id_of : Bytes → Bytes → Report Unit
id_of event out = report (first_failed (id_tests event out)) tt (sha256 event) out

-- the ids of n events, one after another: 1 where they are no whole events or more than 256; 10
abbrev pub ids_tests : Bytes → Bytes → List Test
ids_tests events out =
    let n = length events / 192 in
    must 1 (eqb (length events) (n * 192) && leb n 256) ∷ must 10 (leb (n * 32) (length out)) ∷ []

unfoldable pub ids_of : Bytes → Bytes → Report Unit
ids_of events out =
    report (first_failed (ids_tests events out)) tt (flatten (map sha256 (chunks 192 events (length events / 192)))) out

-- Bytes and ids of events, written to the front of an output.
use Prim.Native.Nat.{ℕ, ◌*◌, ◌/◌, ◌≤◌}
use native.Mathlib.Omega.{arith}
use mathlib.Core.Path.{◌≡◌, refl, sym, ap, ap₂, ◌∙◌}
use mathlib.Core.Bool.{Bool, true, ◌&&◌}
use mathlib.Core.Option.{none}
use mathlib.Core.List.Memᴰ
use mathlib.Core.List.{List, [], ◌∷◌, ◌++◌, map, flatten}
use lib.Dec.{eqb, leb}
use lib.ListN.{length, drop, length-map, take-append-drop}
use lib.Seq.{take_at}
use borrow.Author.Tests.{eq-eqb, le-leb}
use Rattle.lists.specs.Bytes.{Bytes}
use Rattle.lists.specs.Chunks.{chunks, length-chunks, chunks_determine, AllOfLength, length-flatten, chunks-flatten}
use Rattle.octets.specs.Octets.{pasted}
use Rattle.sha256.specs.Sha256.{sha256, sha256-length}
use Rattle.cords.specs.DocumentTable.{document_table}
use Rattle.model.specs.Output.{overwritten, overwritten_more}
use Rattle.event.specs.Answers.{Answer, value, shown_number, must, first_failed}
use Rattle.reports.specs.Reports.{report}
use Rattle.unit_c.specs.Numbers.{show_output, written, ids_of}

-- bytes pasted at the front, where they fit
pub written_front : (bytes out o : Bytes) → length bytes ≤ length out → o ≡ pasted out 0 bytes → record { answer = value tt; out = o } ≡ written bytes out
unfolding overwritten
written_front bytes out o room p =
    rw le-leb (rw p (ap (λ (x : Bytes). record { answer = value tt; out = x }) (overwritten_more [] bytes out (omega arith))))

-- what a call shows that writes bytes of w elements to the front
pub shown_front : (bytes b out o : Bytes) (a : Answer Unit) (w n : ℕ) → length bytes ≡ w → bytes ≡ b
    → record { answer = a; out = o } ≡ written bytes out → n ≡ shown_number a
    → show_output (report (first_failed (must 10 (leb w (length out)) ∷ [])) tt b out) ≡ record { number = n; buffer = o; behind = [] }
shown_front bytes b out o a w n long e p q =
    rw (q, ← long, ← e) (ap show_output (sym p))

-- a table of ids at the front of the output is what the definition writes
module _ (events out : Bytes) where
  abbrev n : ℕ
  n = length events / 192

  abbrev made : List Bytes
  made = map sha256 (chunks 192 events n)

  each_32 : AllOfLength 32 made
  each_32 x m =
      let w = Memᴰ.of_map sha256 (chunks 192 events n) m in
      ap length (sym w.2) ∙ sha256-length w.0

  pub ids-written : (o : Bytes) → (eqb (length events) (n * 192) && leb n 256) ≡ true → n * 32 ≤ length out
      → chunks 32 o n ≡ made → drop (n * 32) o ≡ drop (n * 32) out
      → show_output (ids_of events out) ≡ record { number = 0; buffer = o; behind = [] }
  unfolding ids_of overwritten
  ids-written o whole room e rest =
      let many : length made ≡ n = length-map (chunks 192 events n) sha256 ∙ length-chunks 192 events n in
      let long : length (flatten made) ≡ n * 32 = length-flatten 32 made each_32 ∙ ap (λ (k : ℕ). k * 32) many in
      let cut : chunks 32 (flatten made ++ drop (length (flatten made)) out) n ≡ made =
      ap (chunks 32 (flatten made ++ drop (length (flatten made)) out)) (sym many) ∙ chunks-flatten 32 made (drop (length (flatten made)) out) each_32 in
      let front = chunks_determine 32 o (flatten made ++ drop (length (flatten made)) out) n (e ∙ sym cut)
      ∙ take_at (flatten made) (drop (length (flatten made)) out) (n * 32) long in
      let all : o ≡ flatten made ++ drop (length (flatten made)) out =
      sym (take-append-drop (n * 32) o) ∙ ap₂ (λ (x y : Bytes). x ++ y) front (rest ∙ ap (λ (k : ℕ). drop k out) (sym long)) in
      rw (whole, le-leb (n * 32) (length out) room, all)

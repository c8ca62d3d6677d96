-- The text of the events held, by the tables of an opened store.
use Rattle.std.specs.Prelude.{Option, Some, None, Ok, Err}
use Rattle.std.specs.Option.{ok_or}
use Prim.Native.Nat.{ℕ, ◌*◌, ◌≤◌}
use native.Mathlib.Omega.{arith}
use mathlib.Core.Path.{◌≡◌, refl, sym, ap, ◌∙◌}
use mathlib.Core.List.{List}
use lib.Dec.{leb}
use lib.ListN.{length, take, drop}
use lib.Seq.{length-take-le, take_at}
use Rattle.lists.specs.Cases.{by_bool}
use Rattle.lists.specs.Bytes.{Bytes}
use Rattle.event.specs.declared.Refusal.{Refusal}
use Rattle.event.specs.declared.Refusal.TheVariants.{ShortOutput}
use Rattle.event.specs.Answers.{refused, number_of, answer_of as answer_of_result}
use Rattle.model.specs.Verdicts.{verdict}
use Rattle.model.specs.Map.{Link, machine}
use Rattle.model.proofs.MapLaws.{links_few}
use Rattle.model.proofs.StoreLaws.{held-length}
use Rattle.model.specs.Output.{overwritten}
use Rattle.model.specs.Store.{held_in}
use Rattle.cabling.specs.declared.Ran.{Ran}
use Rattle.cabling.specs.declared.Ports.{Ports}
use Rattle.cabling.specs.Rows.{row_bytes, RowsWritten}
use Rattle.cabling.proofs.Rows.{row-bytes_size, map-bytes}
use Rattle.text_format.specs.Text.{room_text, text_of as text_of_rows, answer_of, output_of, answer_of_printed}
use Rattle.text_format.specs.RowLaws.{Octets, text_of_store}
use Rattle.openers.specs.Opened.{held_view, LinkedTables, LinkedStore}
use Rattle.reports.proofs.AfterStoreTests.{refused_early}
use Rattle.reports.proofs.AfterStoreTests.{passed_store}
use Rattle.reports.specs.Reports.{answered}
use Rattle.reports.specs.HeldEntries.{held_entries}
use Rattle.reports.specs.OpenedBytes.{entry_right}
use Rattle.text.specs.Text.{text_of}

-- ── rows ────────────────────────────────────────────────────────────────────────────────────────────────────────────────

-- no more links than events
held-links_few : (store : Bytes) (n : ℕ) → length (machine (held_view store n)).links ≤ n
held-links_few store n = omega (arith, links_few (held_in store n), held-length store n)

module _ {store : Bytes} {n : ℕ} {verdicts : List ℕ} {ports : Ports} {w : Ran} (t : LinkedTables store n verdicts ports w) where
  abbrev links : List Link
  links = (machine (held_view store n)).links

  verdict_each : length (take n verdicts) ≡ n
  verdict_each = length-take-le n verdicts (omega (arith, t.few, t.long))

  module _ {k : ℕ} {rows₀ rows : Bytes} (wrote : RowsWritten ports rows₀ rows k) where
    pub rows_few : k ≤ 256
    rows_few = omega (arith, wrote.count links t.shows.links, held-links_few store n, t.few)

    -- k rows, written to an array of 2,048 bytes, are its front
    rows_front : length rows₀ ≡ 2048 → take (k * 8) rows ≡ row_bytes (machine (held_view store n)).links
    unfolding overwritten
    rows_front size =
        let same = wrote.count links t.shows.links in
        ap (take (k * 8)) (wrote.bytes links t.shows.links (omega (arith, same, rows_few)))
        ∙ take_at (row_bytes links) (drop (length (row_bytes links)) rows₀) (k * 8) (omega (arith, row-bytes_size links, same))

-- ── the text ────────────────────────────────────────────────────────────────────────────────────────────────────────────

-- a text that has no room is refused by 10
shown : (p : Option ℕ) → answer_of_result (ok_or p ShortOutput) ≡ answer_of_printed p
shown (Some n) = refl
shown None = refl

module _ {table store : Bytes} {n : ℕ} {verdicts : List ℕ} {ports : Ports} (out : Bytes) where
  pub text-refused : {k : Refusal} → LinkedStore table store n verdicts ports (Err k) → answered (refused (number_of k)) out ≡ text_of table store n out
  unfolding text_of
  text-refused {k} s =
      refused_early table store n (length (room_text (held_view store n))) (room_text (held_view store n)) out (number_of k) s.told

  module _ {w : Ran} (s : LinkedStore table store n verdicts ports (Ok w)) where
    same : Octets table → {rows : Bytes} → rows ≡ row_bytes (machine (held_view store n)).links
        → text_of_rows rows (take n verdicts) ≡ room_text (held_view store n)
    same bytes {rows} e =
        text_of_store table bytes store n (passed_store table store n s.told).1.passes rows (take n verdicts)
        (e ∙ sym (map-bytes (held_view store n)))
        (held_entries store n (λ x. verdict (held_view store n) x.ident) 0 (take n verdicts) (verdict_each s.left)
        (λ k h. entry_right s.left.judged refl h))

    -- 10 decides
    whole : answered (answer_of (room_text (held_view store n)) out) (output_of (room_text (held_view store n)) out) ≡ text_of table store n out
    unfolding answer_of output_of text_of
    whole =
        let good = passed_store table store n s.told in
        by_bool (leb (length (room_text (held_view store n))) (length out))
        (λ t. rw (good.0, good.1.lent, good.1.passes, t) refl)
        (λ f. rw (good.0, good.1.lent, good.1.passes, f) refl)

    -- p was printed of the k rows written, and of the numbers of the verdicts
    pub text_told : Octets table
        → {k : ℕ} {rows₀ rows : Bytes} → RowsWritten ports rows₀ rows k → length rows₀ ≡ 2048 → {numbers : List ℕ} → numbers ≡ take n verdicts
        → (p : Option ℕ) {left : Bytes}
        → (answer_of_printed p ≡ answer_of (text_of_rows (take (k * 8) rows) numbers) out)
        × (left ≡ output_of (text_of_rows (take (k * 8) rows) numbers) out)
        → answered (answer_of_result (ok_or p ShortOutput)) left ≡ text_of table store n out
    text_told bytes {k} {rows₀} {rows} wrote size numbered p printed =
        let here =
        ap (text_of_rows (take (k * 8) rows)) numbered ∙ same bytes (rows_front s.left wrote size) in
        let answer = shown p ∙ printed.0 ∙ ap (λ (b : Bytes). answer_of b out) here in
        let now = printed.1 ∙ ap (λ (b : Bytes). output_of b out) here in
        (λ i. answered (answer i) (now i)) ∙ whole

-- The round trip: a written bundle in a fresh unit.
use Prim.Native.Nat.{ℕ, ◌+◌, ◌-◌, ◌*◌, ◌≤◌}
use native.Mathlib.Omega.{arith}
use mathlib.Core.Path.{◌≡◌, refl, sym, ap, ◌∙◌, subst}
use mathlib.Core.Logic.{⊎_elim}
use mathlib.Core.Bool.{true}
use mathlib.Core.Option.{none}
use mathlib.Core.List.Memᴰ
use mathlib.Core.List.{List, [], ◌∷◌, append-nil, Memᴰ}
use lib.Dec.{eqb}
use lib.ListN.{length, drop}
use lib.Seq.{length-take-le, take_at}
use borrow.Author.Tests.{eq-eqb, le-leb}
use Rattle.lists.specs.Bytes.{Bytes}
use Rattle.lists.proofs.Bytes.{same_refl}
use Rattle.lists.proofs.Tests.{keep_all}
use Rattle.lists.proofs.Counting.{distinct_length}
use Rattle.lists.specs.Chunks.{AllOfLength, length-chunks}
use Rattle.sha256.specs.Sha256.{sha256}
use Rattle.cords.specs.Lent.{lent_entry}
use Rattle.event.specs.Answers.{value}
use Rattle.event.specs.Fields.{kind_of, room_of, fields_good}
use Rattle.event.specs.Contents.{body_of}
use Rattle.event.specs.Checks.{cord_good, refusal}
use Rattle.event.specs.CheckLaws.{passes→}
use Rattle.model.specs.Store.{held_in}
use Rattle.model.specs.StoreLaws.{Checked, Held}
use Rattle.model.proofs.StoreLaws.{checked→, checked_held, places_first, creator→, later→}
use Rattle.model.specs.Bundle.{bundle_good, events_in}
use Rattle.model.specs.Rows.{written_bytes}
use Rattle.model.specs.Output.{overwritten}
use Rattle.takes.specs.declared.Tally.{Tally}
use Rattle.takes.specs.declared.Placed.{Placed}
use Rattle.takes.specs.declared.Placed.TheVariants.{Stored}
use Rattle.takes.specs.Takes.{Left, Run, start_of, run_of, bundle_of}
use Rattle.takes.specs.TakeLaws.{Good, fresh_run, total}
use Rattle.takes.proofs.TakeLaws.{starts←, start_held, start_creator, start_good, bundle-good, figures_total}
use Rattle.call_lists.specs.Calls.{Fits, Lent, bundle, held_by, offers_of, offers, passes_beside, counted_events, after_call, after_calls}
use Rattle.reports.specs.Reports.{Report, written_of}
use Rattle.claims.specs.Told.{set_view, Tells}
use Rattle.claims.specs.ThirdDemand.{Given, Makes}
use Rattle.claims.specs.RoundTrip.{written_by, written_size, creator_of, fresh, taken, RoundTrip}
use Rattle.claims.proofs.Units.{tells, Holds, unit_holds, unit_tells}
use Rattle.claims.proofs.Written.{raws, raws-length, raws_members, written_size_lem, written_read}
use Rattle.claims.proofs.Figures.{held_distinct, Running, Rises, run_rises}

-- the creator passes the checks of an offer beside itself
creator-passes : (entry : ℕ → ℕ → ℕ) (c : Bytes) → length c ≡ 192 → eqb (kind_of c) 0 ≡ true → fields_good c ≡ true
    → refusal entry c c ≡ none
unfolding refusal cord_good body_of
creator-passes entry c long kind fields =
    rw (eq-eqb (length c) 192 long, fields, same_refl (room_of c), kind, same_refl c)

-- ── a store that passes check 2 ─────────────────────────────────────────────────────────────────────────────────────────

module _ (table : Bytes) (m : Lent) (g : Good table m.store m.count) where
  abbrev c : Bytes
  c = creator_of m

  abbrev s : List Bytes
  s = held_by m

  abbrev bytes : Bytes
  bytes = written_bytes (set_view s)

  bounds : Checked (lent_entry table) m.store m.count
  bounds = checked→ (lent_entry table) m.store m.count g.passes

  first : s ≡ c ∷ drop 1 s
  first = places_first m.store m.count bounds.at_least

  held : Held (lent_entry table) c (drop 1 s)
  held = checked_held (lent_entry table) m.store m.count bounds

  c_long : length c ≡ 192
  c_long = length-take-le 192 m.store (omega (arith, g.size))

  all_pass : (e : Bytes) → Memᴰ e s → refusal (lent_entry table) c e ≡ none
  all_pass e i =
      let create = creator→ c held.creator-good in
      ⊎_elim
      (λ q. ap (refusal (lent_entry table) c) q ∙ creator-passes (lent_entry table) c c_long create.0 create.1)
      (λ j. (later→ (lent_entry table) c e (held.others-good e j)).1)
      (Memᴰ.cases_cons (subst (Memᴰ e) first i))

  all_long : AllOfLength 192 s
  all_long e i = (passes→ (lent_entry table) c e (all_pass e i)).long

  number : length s ≡ m.count
  number = length-chunks 192 m.store m.count

  fits : Fits s
  fits =
      record {
        at_most = omega (arith, number, bounds.at_most);
        distinct = held_distinct (lent_entry table) m.store m.count g.passes;
      }

  size_is : length bytes ≡ written_size m
  size_is = written_size_lem s all_long ∙ ap (λ (n : ℕ). 192 * n + 12) number

  -- a unit that tells this set writes the bundle
  wrote : (n : Lent) → Tells table s n → (out : Bytes) → written_size m ≤ length out
      → written_of table n.store n.count out ≡ record { answer = value (written_size m); out = overwritten bytes out }
  wrote n t out h =
      t.written_told out
      ∙ rw (le-leb (length bytes) (length out) (omega (arith, size_is)))
      (ap (λ (k : ℕ). record { answer = value k; out = overwritten bytes out }) size_is)

  wrote_bytes : (n : Lent) → Tells table s n → (out : Bytes) → written_size m ≤ length out → written_by table n out ≡ bytes
  unfolding overwritten
  wrote_bytes n t out h = rw (wrote n t out h) (take_at bytes (drop (length bytes) out) (written_size m) size_is)

  self : Tells table s m
  unfolding held_in
  self = tells table m g s refl

  -- ── the fresh unit ──────────────────────────────────────────────────────────────────────────────────────────────────────

  module _ (buffer : Bytes) (size : length buffer ≡ 49152) where
    start_answers : (start_of table buffer c).answer ≡ value Stored
    start_answers =
        let create = creator→ c held.creator-good in
        ap (λ (x : Left Placed). x.answer)
        (starts← table buffer c (record { size = size; lent = g.lent; long = c_long; fields = create.1; create = create.0 }))

    module _ (b : Bytes) (b-is : b ≡ bytes) where
      abbrev given : Given
      given = record { buffer = buffer; calls = bundle b ∷ [] }

      read : (bundle_good b ≡ true) × (events_in b ≡ raws s)
      read = rw b-is (written_read s all_long fits.at_most)

      counted_is : counted_events table c (bundle b ∷ []) ≡ raws s
      unfolding counted_events offers offers_of
      counted_is =
          rw (read.0, read.1, append-nil (raws s))
          (keep_all (passes_beside table c) (raws s) (λ e i. rw (all_pass e ((raws_members s).0 e i))))

      makes : Makes table c s given
      makes =
          record {
            starts = start_answers;
            same_set = rw counted_is (
              (λ y i. Memᴰ.tail ((raws_members s).1 y i)),
              (λ y i. ⊎_elim
                  (λ q. subst (Memᴰ y) (sym first) (Memᴰ.head q))
                  (λ j. (raws_members s).0 y j)
                  (Memᴰ.cases_cons i)),
            );
          }

      holds : Holds table s (after_call table (fresh table m buffer) (bundle b))
      unfolding after_calls
      holds = unit_holds table c s fits given makes

      after_tells : Tells table s (after_call table (fresh table m buffer) (bundle b))
      unfolding after_calls
      after_tells = unit_tells table c s fits given makes

      abbrev ran : Run
      ran = run_of table (fresh_run (fresh table m buffer).store (fresh table m buffer).count) (raws s)

      bundle_is : bundle_of table (fresh table m buffer).store (fresh table m buffer).count b
          ≡ record { answer = value ran.figures; count = ran.count; store = ran.store }
      bundle_is =
          bundle-good table (fresh table m buffer).store (fresh table m buffer).count b (start_good table buffer c start_answers)
          ∙ rw (read.0, read.1)

      count_same : (after_call table (fresh table m buffer) (bundle b)).count ≡ m.count
      count_same =
          let n = after_call table (fresh table m buffer) (bundle b) in
          let k = length-chunks 192 n.store n.count in
          let a = distinct_length sha256 (held_by n) s holds.distinct holds.same_members.0 in
          let d = distinct_length sha256 s (held_by n) fits.distinct holds.same_members.1 in
          omega (arith, number)

      ran-count : ran.count ≡ m.count
      unfolding after_call
      ran-count = sym (ap (λ (x : Left Tally). x.count) bundle_is) ∙ count_same

      running : Running table c s fits.at_most all_pass (fresh_run (fresh table m buffer).store (fresh table m buffer).count)
      running =
          record {
            good = start_good table buffer c start_answers;
            creator_first = start_creator table buffer c start_answers;
            within = λ y i.
                let here = subst (Memᴰ y) (start_held table buffer c start_answers) i in
                subst (Memᴰ y) (sym first) (Memᴰ.head (Memᴰ.eq_of_singleton here));
          }

      figures_are : ran.figures ≡ record { new = m.count - 1; repeats = 1; refused = 0 }
      figures_are = λ i. record { new = news i; repeats = repeats i; refused = refusals i }
        where
          few : length (raws s) ≤ 256
          few = omega (arith, raws-length s, fits.at_most)

          rises : Rises table c s fits.at_most all_pass (fresh_run (fresh table m buffer).store (fresh table m buffer).count) ran
          rises = run_rises table c s fits.at_most all_pass (fresh_run _ _) (raws s) running (raws_members s).0 (omega (arith, few))

          one : (fresh table m buffer).count ≡ 1
          one = sym (length-chunks 192 (fresh table m buffer).store (fresh table m buffer).count) ∙ ap length (start_held table buffer c start_answers)

          sum : total ran.figures ≡ length (raws s)
          sum = figures_total table (fresh table m buffer).store (fresh table m buffer).count (raws s) few

          news : ran.figures.new ≡ m.count - 1
          news = omega (arith, rises.by_new, one, ran-count)

          refusals : ran.figures.refused ≡ 0
          refusals = rises.none_refused

          repeats : ran.figures.repeats ≡ 1
          repeats = omega (arith, sum, news, refusals, raws-length s, number, bounds.at_least)

-- ── the trip ────────────────────────────────────────────────────────────────────────────────────────────────────────────

pub round_trip : RoundTrip
round_trip table m out again buffer h =
    let g : Good table m.store m.count = record { size = h.size; lent = h.lent; passes = h.passes } in
    let b-is = wrote_bytes table m g m (self table m g) out h.out_long in
    let there = holds table m g buffer h.buffer_size (written_by table m out) b-is in
    let tell = after_tells table m g buffer h.buffer_size (written_by table m out) b-is in
    let answered = bundle_is table m g buffer h.buffer_size (written_by table m out) b-is in
    record {
      written = ap (λ (r : Report ℕ). r.answer) (wrote table m g m (self table m g) out h.out_long);
      starts = start_answers table m g buffer h.buffer_size;
      figures =
          ap (λ (x : Left Tally). x.answer) answered
          ∙ ap (λ (t : Tally). value t) (figures_are table m g buffer h.buffer_size (written_by table m out) b-is);
      same_count = count_same table m g buffer h.buffer_size (written_by table m out) b-is;
      same_events = there.same_members;
      distinct = there.distinct;
      written_again = ap (λ (r : Report ℕ). r.answer) (wrote table m g (taken table m out buffer) tell again h.again_long);
      same_bytes_lem = wrote_bytes table m g (taken table m out buffer) tell again h.again_long ∙ sym b-is;
    }

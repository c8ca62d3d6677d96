-- A unit after a list of calls whose counted events make a set that fits: what it holds, and that its four calls tell the set.
use native.Mathlib.Omega.{arith}
use mathlib.Core.Path.{◌≡◌, refl, sym, ap, ◌∙◌, subst}
use mathlib.Core.List.Memᴰ
use mathlib.Core.List.{List, [], ◌∷◌, map}
use lib.Dec.{leb}
use lib.ListN.{length}
use borrow.Author.Tests.{eq-eqb}
use Rattle.lists.specs.Cases.{is_some, by_bool}
use Rattle.lists.specs.Bytes.{Bytes}
use Rattle.lists.specs.Tests.{Within, SameMembers}
use Rattle.lists.specs.Sorting.{Distinct}
use Rattle.lists.proofs.Sorting.{distinct_one, distinct_map}
use Rattle.lists.proofs.Once.{once→, once←, once_distinct}
use Rattle.lists.proofs.Counting.{distinct_length}
use Rattle.sha256.specs.Sha256.{sha256}
use Rattle.event.specs.Answers.{first_failed}
use Rattle.model.specs.Store.{event_of, held_in}
use Rattle.model.specs.Heights.{View, order}
use Rattle.model.specs.Map.{machine}
use Rattle.model.specs.Rows.{order_bytes, map_bytes, written_bytes}
use Rattle.model.specs.SetLaws.{DistinctIds}
use Rattle.model.proofs.Agreement.{view_same}
use Rattle.takes.specs.TakeLaws.{Good}
use Rattle.call_lists.specs.Calls.{Fits, Lent, held_by, set_of}
use Rattle.call_lists.proofs.CallLaws.{set-held, calls_good}
use Rattle.reports.specs.Reports.{held_view, write_tests, report, figures_of, order_of, map_of, written_of, verdict_of}
use Rattle.claims.specs.Told.{set_view, report_from, verdict_from, Tells}
use Rattle.claims.specs.ThirdDemand.{Given, leaves, counts, Makes}

-- ── the four calls of a store that passes check 2 ───────────────────────────────────────────────────────────────────────

module _ (table : Bytes) (m : Lent) (g : Good table m.store m.count) where
  abbrev v : View
  v = held_view m.store m.count

  -- a call that writes gives its bytes where they fit, else 10
  reports : {A : Type 0} (a : A) (bytes out : Bytes)
      → report (first_failed (write_tests table m.store m.count bytes out)) a bytes out ≡ report_from a bytes out
  reports a bytes out =
      rw (eq-eqb (length m.store) 49152 g.size, g.lent, g.passes)
      (by_bool (leb (length bytes) (length out)) (λ t. rw t) (λ f. rw f))

  -- so they tell the set whose view is that of the events held
  pub tells : (s : List Bytes) → held_view m.store m.count ≡ set_view s → Tells table s m
  unfolding order_of map_of written_of verdict_of
  tells s same =
      record {
        order_told = λ out.
            reports (length (order v)) (order_bytes v) out
            ∙ ap (λ (x : View). report_from (length (order x)) (order_bytes x) out) same;
        verdict_told = λ id long. asked id long ∙ ap (λ (x : View). verdict_from x id) same;
        map_told = λ out.
            reports (figures_of (machine v)) (map_bytes v) out
            ∙ ap (λ (x : View). report_from (figures_of (machine x)) (map_bytes x) out) same;
        written_told = λ out.
            reports (length (written_bytes v)) (written_bytes v) out
            ∙ ap (λ (x : View). report_from (length (written_bytes x)) (written_bytes x) out) same;
      }
    where
      asked : (id : Bytes) → length id ≡ 32 → verdict_of table m.store m.count id ≡ verdict_from v id
      asked id long =
          rw (eq-eqb (length m.store) 49152 g.size, eq-eqb (length id) 32 long, g.lent, g.passes)
          (by_bool (is_some (v.find id)) (λ t. rw t) (λ f. rw f))

-- ── lists of one set ────────────────────────────────────────────────────────────────────────────────────────────────────

-- byte strings of a list without two equal ids, none of them twice, have no two equal ids either
distinct_among : (l s : List Bytes) → Distinct (λ x. x) l → Distinct sha256 s → Within l s → Distinct sha256 l
distinct_among [] s d c h = tt
distinct_among (x ∷ xs) s d c h = (
  (λ y i q. d.0 y i (distinct_one sha256 s y x c (h y (Memᴰ.tail i)) (h x (Memᴰ.head refl)) q)),
  distinct_among xs s d.1 c (λ y i. h y (Memᴰ.tail i)),
)

map-within : (l m : List Bytes) → Within l m → Within (map event_of l) (map event_of m)
map-within l m h e i = let w = Memᴰ.of_map event_of l i in Memᴰ.cast (sym w.2) (Memᴰ.map event_of (h w.0 w.1))

pub ids_distinct : (l : List Bytes) → Distinct sha256 l → DistinctIds (map event_of l)
unfolding event_of
ids_distinct l d = distinct_map event_of (λ e. e.ident) l d

-- two lists of one set have one view
pub same_view : (l m : List Bytes) → Distinct sha256 l → Distinct sha256 m → SameMembers l m → set_view l ≡ set_view m
same_view l m d c h =
    view_same (map event_of l) (map event_of m) (ids_distinct l d) (ids_distinct m c) (map-within l m h.0, map-within m l h.1)

-- ── a unit ──────────────────────────────────────────────────────────────────────────────────────────────────────────────

-- what is held: the members of the set, each once
pub record Holds (table : Bytes) (s : List Bytes) (m : Lent) : Type 0 where
  pub good : Good table m.store m.count
  pub same_members : SameMembers (held_by m) s
  pub distinct : Distinct sha256 (held_by m)

module _ (table creator : Bytes) (s : List Bytes) (fits : Fits s) (u : Given) (h : Makes table creator s u) where
  abbrev set : List Bytes
  set = set_of table creator u.calls

  members : SameMembers set s
  members = (
    (λ y i. h.same_set.1 y (once→ (counts table creator u) y i)),
    (λ y i. once← (counts table creator u) y (h.same_set.0 y i)),
  )

  set_fits : Fits set
  set_fits =
      let apart = once_distinct (counts table creator u) in
      let few = distinct_length (λ x. x) set s apart members.0 in
      record { at_most = omega (arith, few, fits.at_most); distinct = distinct_among set s apart fits.distinct members.0 }

  pub unit_holds : Holds table s (leaves table creator u)
  unit_holds =
      let held = set-held table u.buffer creator h.starts u.calls set_fits in
      record {
        good = calls_good table u.buffer creator h.starts u.calls;
        same_members = subst (λ (l : List Bytes). SameMembers l s) (sym held) members;
        distinct = subst (Distinct sha256) (sym held) set_fits.distinct;
      }

  pub unit_tells : Tells table s (leaves table creator u)
  unfolding held_in
  unit_tells =
      let k = unit_holds in
      tells table (leaves table creator u) k.good s (same_view (held_by (leaves table creator u)) s k.distinct fits.distinct k.same_members)

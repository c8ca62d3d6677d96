-- The held events by their places: ancestors, lines, and the targets of revokes.
use Rattle.std.specs.Prelude.{ℕ, zero, suc, ◌+◌, ◌*◌, ◌<◌, ◌≤◌, ◌≡◌, true, ◌&&◌, eqb, Some, None}
use Rattle.std.proofs.Common.{arith, sym, ◌∙◌}
use Rattle.std.proofs.Math.Path.{ap, ap₂}
use Rattle.std.proofs.Math.Logic.{⊎_elim}
use Rattle.std.proofs.Math.Bool.{false}
use Rattle.std.proofs.Math.Option.{none, some}
use mathlib.Core.List.Memᴰ
use mathlib.Core.List.{List, ◌∷◌, map, Memᴰ}
use Rattle.std.proofs.Math.ListN.{get_or}
use borrow.Author.Tests.{eqb-true, lt-ltb}
use Rattle.lists.specs.Cases.{maybe, by_bool, clash_option}
use Rattle.lists.specs.Bytes.{Bytes, same_bytes}
use Rattle.lists.specs.Tests.{any_of, member_of}
use Rattle.lists.proofs.Tests.{any_map, any_cong}
use Rattle.event.specs.Fields.{kind_of, presented_of, target_of, names_id, named_id, event_at}
use Rattle.event.specs.Contents.{body_of}
use Rattle.model.specs.Events.{Id, Event, grants, revokes, is_grant, is_revoke}
use Rattle.model.specs.Heights.{find_in, View, view, height, settled, ancestor}
use Rattle.model.specs.Verdicts.{line, target_suits}
use Rattle.model.proofs.HeightLaws.{height_found, settled→}
use Rattle.model.proofs.AncestryLaws.{descendant_settled, ancestor-height, ancestor-settled}
use Rattle.model.proofs.LineLaws.{line_presents, line_ends}
use Rattle.model.specs.Store.{event_of, held_in}
use Rattle.store.specs.Tables.{slot_in}
use Rattle.ordering.specs.Named.{missing, no_place, place_by, named_place}
use Rattle.ordering.specs.LevelLaws.{height_of, Levelled}
use Rattle.ordering.proofs.LevelLaws.{entry_at}
use Rattle.ordering.proofs.LevelLaws.{level_from, by_slot, find_gap, level_height}
use Rattle.ordering.specs.Placed.{held_at, id_of}
use Rattle.ordering.proofs.Placed.{find_place, same_place, slot_place, settled_level, level_settled, level_low}
use Rattle.tables.specs.declared.BitRow.{BitRow}
use Rattle.tables.specs.Bits.{bit_high}
use Rattle.ancestry.specs.Ancestors.{AncestorBits}
use Rattle.authority.specs.Found.{ancestor_by, place_number, target_by}
use Rattle.authority.specs.Lines.{line_from}
use Rattle.authority.specs.Sound.{target_suits_at}

-- the tables of a store that passed check 2, as far as soundness reads them: the rows M, and the entries of Q and G, are those of
-- the settled places
pub record Tables (store : Bytes) (n : ℕ) (ids : Bytes) (index P T : List ℕ) (M : List BitRow) (Q G : List ℕ) : Type 0 where
  pub levelled : Levelled store n ids index P T
  pub ancestors : AncestorBits store n T M
  pub presents : (k : ℕ) → k < n → (get_or T k 0 ≡ 0 → ⊥) → get_or Q k 0 ≡ place_number (ancestor_by P M k 3)
  pub names : (k : ℕ) → k < n → (get_or T k 0 ≡ 0 → ⊥) → get_or G k 0 ≡ place_number (target_by store P M k)

-- kind 2 is the revoke
revoke_kind : (x : Bytes) → revokes (body_of x) ≡ eqb (kind_of x) 2
unfolding body_of
revoke_kind x =
    by_bool (eqb (kind_of x) 0)
    (λ a. let e : kind_of x ≡ 0 = eqb-true (kind_of x) 0 a in rw e)
    (λ a. rw a
    (by_bool (eqb (kind_of x) 1)
    (λ b. let e : kind_of x ≡ 1 = eqb-true (kind_of x) 1 b in rw e)
    (λ b. rw b
    (by_bool (eqb (kind_of x) 2)
    (λ d. rw d)
    (λ d. rw d (by_bool (eqb (kind_of x) 3) (λ f. rw f) (λ f. rw f)))))))

module _ (store : Bytes) (n k : ℕ) where
  -- the id a is that of an ancestor of the event at place k, which stands at place q
  pub record AncestorAt (a : Id) (q : ℕ) : Type 0 where
    pub is_ancestor : ancestor (view (held_in store n)) (id_of store k) a ≡ true
    pub inside : q < n
    pub id_is : id_of store q ≡ a

  -- m is the line of the event at place k, by places
  pub record LineIs (m : List ℕ) : Type 0 where
    pub is_line : line (view (held_in store n)) (id_of store k) ≡ map (id_of store) m
    pub all_inside : (j : ℕ) → Memᴰ j m → j < n

  -- the revoke at place k names an ancestor of kind grant, at place q
  pub record Named (q : ℕ) : Type 0 where
    pub named : AncestorAt (held_at store k).target q
    pub is_grant_lem : is_grant (held_at store q) ≡ true

  -- it does not
  abbrev pub Unnamed : Type 0
  Unnamed =
      (ancestor (view (held_in store n)) (id_of store k) (held_at store k).target
      && maybe false is_grant (find_in (held_in store n) (held_at store k).target)) ≡ false

module _ {store : Bytes} {n : ℕ} {ids : Bytes} {index P T : List ℕ} {M : List BitRow} {Q G : List ℕ} (tables : Tables store n ids index P T M Q G) where
  abbrev held : List Event
  held = held_in store n

  abbrev seen : View
  seen = view (held_in store n)

  pub few : n ≤ 256
  few = tables.levelled.loaded.at_most

  -- ── the events by their places, and their levels ────────────────────────────────────────────────────────────────────────

  pub found : (k : ℕ) → k < n → find_in held (id_of store k) ≡ some (held_at store k)
  found = find_place tables.levelled.loaded

  pub level_is : (k : ℕ) → k < n → height_of (get_or T k 0) ≡ height seen (id_of store k)
  level_is = level_height tables.levelled

  abbrev Settled : ℕ → Type 0
  Settled k = get_or T k 0 ≡ 0 → ⊥

  pub settled_at : (k : ℕ) → k < n → Settled k → settled seen (id_of store k) ≡ true
  settled_at = level_settled tables.levelled

  pub level_of_lem : (k : ℕ) → k < n → settled seen (id_of store k) ≡ true → Settled k
  level_of_lem = settled_level tables.levelled

  -- an ancestor has a lower level
  pub lower : (k p : ℕ) → k < n → p < n → ancestor seen (id_of store k) (id_of store p) ≡ true → Settled p × (get_or T p 0 < get_or T k 0)
  lower k p h l t =
      let w = settled→ seen (id_of store k) (descendant_settled held (id_of store k) (id_of store p) t) in
      let u = ancestor-height held (id_of store k) (id_of store p) w.0 w.1 t in
      let a = level_from (get_or T k 0) w.0 (level_is k h ∙ w.1) in
      let b = level_from (get_or T p 0) u.0 (level_is p l ∙ u.1) in
      ((λ z. omega (arith, b, z)), omega (arith, a, b, u.2))

  -- ── ancestors by their places ─────────────────────────────────────────────────────────────────────────────────────────

  -- an ancestor's id is held
  unheld : (i a : Id) → find_in held a ≡ none → ancestor seen i a ≡ false
  unheld i a u =
      by_bool (ancestor seen i a)
      (λ t.
      let w = settled→ seen a (ancestor-settled held i a t) in
      let f = height_found held a w.0 w.1 in
      clash_option (find_in held a) f.0 u f.1)
      (λ f. f)

  -- an id that the event at a settled place names is that of an ancestor, or of none
  by_search : {A : Type 0} (k j : ℕ) (a : Id) → k < n → Settled k → get_or P (k * 5 + j) 0 ≡ place_by ids index a
      → ((p : ℕ) → ancestor_by P M k j ≡ Some p → AncestorAt store n k a p → A)
      → (ancestor_by P M k j ≡ None → ancestor seen (id_of store k) a ≡ false → A) → A
  by_search k j a h s named at gone =
      by_slot (slot_in ids 0 index a)
      (λ p e.
      let place = slot_place tables.levelled.loaded a p e in
      let row = tables.ancestors.bit k p h place.0 s ∙ ap (ancestor seen (id_of store k)) place.1 in
      by_bool (ancestor seen (id_of store k) a)
      (λ t. at p (rw (named, e, row ∙ t)) (record { is_ancestor = t; inside = place.0; id_is = place.1 }))
      (λ f. gone (rw (named, e, row ∙ f)) f))
      (λ g e. gone (rw (named, e, bit_high M k 256 (omega arith))) (unheld (id_of store k) a (find_gap tables.levelled.loaded a g e)))

  -- what a settled place presents is an ancestor, or nothing
  pub by_presented : {A : Type 0} (k : ℕ) → k < n → Settled k
      → ((p : ℕ) → get_or Q k 0 ≡ p → AncestorAt store n k (held_at store k).presented p → A)
      → (get_or Q k 0 ≡ missing → ancestor seen (id_of store k) (held_at store k).presented ≡ false → A) → A
  unfolding named_place names_id named_id event_of
  by_presented k h s at gone =
      by_search k 3 (presented_of (event_at store k)) h s (entry_at tables.levelled.loaded tables.levelled.reads k 3 h (omega arith))
      (λ p e w. at p (tables.presents k h s ∙ ap place_number e) w)
      (λ e f. gone (tables.presents k h s ∙ ap place_number e) f)

  -- ── lines ─────────────────────────────────────────────────────────────────────────────────────────────────────────────

  -- one step: what is presented, then its line, or the end
  line_step : (f k : ℕ) → k < n → Settled k → get_or T k 0 ≤ suc f
      → ((p : ℕ) → p < n → Settled p → get_or T p 0 ≤ f → LineIs store n p (line_from Q f p)) → LineIs store n k (line_from Q (suc f) k)
  unfolding line_from
  line_step f k h s l up =
      by_presented k h s
      (λ p e w. rw (e, lt-ltb p 256 (omega (arith, w.inside, few))) (goes p w))
      (λ e f.
      rw e
      (record {
        is_line = line_ends held (id_of store k) (held_at store k) (found k h) f;
        all_inside = λ j m. absurd (Memᴰ.not-nil m);
      }))
    where
      goes : (p : ℕ) → AncestorAt store n k (held_at store k).presented p → LineIs store n k (p ∷ line_from Q f p)
      goes p w =
          let low = lower k p h w.inside (ap (ancestor seen (id_of store k)) w.id_is ∙ w.is_ancestor) in
          let rest = up p w.inside low.0 (omega (arith, low.1)) in
          let whole = line_presents held (id_of store k) (held_at store k) (found k h) (settled_at k h s) w.is_ancestor in
          record {
            is_line = whole ∙ ap₂ (λ (i : Id) (m : List Id). i ∷ m) (sym w.id_is) (ap (line seen) (sym w.id_is) ∙ rest.is_line);
            all_inside = λ j m. ⊎_elim (λ (e : j ≡ p). rw e w.inside) (λ r. rest.all_inside j r) (Memᴰ.cases_cons m);
          }

  -- as many steps as the level says are enough
  pub lines : (f k : ℕ) → k < n → Settled k → get_or T k 0 ≤ f → LineIs store n k (line_from Q f k)
  lines zero k h s l = absurd (s (omega arith))
  lines (suc f) k h s l = line_step f k h s l (λ p. lines f p)

  -- ── the target of a revoke ──────────────────────────────────────────────────────────────────────────────────────────

  -- an id among the ids of held places, by the places
  member_is : (q : ℕ) → q < n → (m : List ℕ) → ((j : ℕ) → Memᴰ j m → j < n)
      → member_of (id_of store q) (map (id_of store) m) ≡ any_of (eqb q) m
  member_is q h m inside =
      any_map (same_bytes (id_of store q)) (id_of store) m
      ∙ any_cong (λ j. same_bytes (id_of store q) (id_of store j)) (eqb q) m
      (λ j i. sym (same_place tables.levelled.loaded q j h (inside j i)))

  -- what a settled revoke names is a grant among its ancestors, or it names none
  pub by_target : {A : Type 0} (k : ℕ) → k < n → Settled k → is_revoke (held_at store k) ≡ true
      → ((t : ℕ) → get_or G k 0 ≡ t → Named store n k t → A)
      → (get_or G k 0 ≡ missing → Unnamed store n k → A) → A
  unfolding named_place names_id named_id event_of
  by_target k h s r at gone =
      by_search k 4 (target_of (event_at store k)) h s
      (entry_at tables.levelled.loaded tables.levelled.reads k 4 h (omega arith) ∙ rw (sym (revoke_kind (event_at store k)), r))
      (λ t e w.
      let event = ap (find_in held) (sym w.id_is) ∙ found t w.inside in
      by_bool (grants (body_of (event_at store t)))
      (λ u. at t (tables.names k h s ∙ rw (e, u)) (record { named = w; is_grant_lem = u }))
      (λ f. gone (tables.names k h s ∙ rw (e, f)) (rw (w.is_ancestor, event, f))))
      (λ e f. gone (tables.names k h s ∙ rw e) (rw f))

  -- another kind names none
  pub no_target : (k : ℕ) → k < n → Settled k → is_revoke (held_at store k) ≡ false → get_or G k 0 ≡ missing
  unfolding named_place names_id event_of
  no_target k h s r =
      let none : get_or P (k * 5 + 4) 0 ≡ no_place =
      entry_at tables.levelled.loaded tables.levelled.reads k 4 h (omega arith) ∙ rw (sym (revoke_kind (event_at store k)), r) in
      tables.names k h s ∙ rw (none, bit_high M k no_place (omega arith))

  -- the condition on targets, where P stands at place q
  pub target_is : (k q : ℕ) → k < n → Settled k → AncestorAt store n k (held_at store k).presented q
      → target_suits seen (held_at store k) ≡ target_suits_at Q (held_at store k).body q (get_or G k 0)
  unfolding target_suits target_suits_at
  target_is k q h s w =
      by_bool (is_revoke (held_at store k))
      (λ r. by_target k h s r
      (λ t e u. rw (r, e, lt-ltb t 256 (omega (arith, u.named.inside, few))) (names_one t u))
      (λ e f. rw (r, e, f)))
      (λ f. rw f)
    where
      names_one : (t : ℕ) → Named store n k t
          → (ancestor seen (id_of store k) (held_at store k).target
          && maybe false is_grant (find_in held (held_at store k).target)
          && member_of (held_at store k).presented (line seen (held_at store k).target))
          ≡ any_of (eqb q) (line_from Q 256 t)
      names_one t u =
          let a = u.named in
          let event = ap (find_in held) (sym a.id_is) ∙ found t a.inside in
          let low = lower k t h a.inside (ap (ancestor seen (id_of store k)) a.id_is ∙ a.is_ancestor) in
          let above = lines 256 t a.inside low.0 (level_low tables.levelled t) in
          let member = ap₂ member_of (sym w.id_is) (ap (line seen) (sym a.id_is) ∙ above.is_line)
          ∙ member_is q w.inside (line_from Q 256 t) above.all_inside in
          rw (a.is_ancestor, event, u.is_grant_lem, member)

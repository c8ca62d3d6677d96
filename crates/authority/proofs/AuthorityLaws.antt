-- The tables of presented places, targets and sound places say what the model says of the held events.
use Prim.Native.Nat.{ℕ, zero, suc, ◌+◌, ◌*◌, ◌<◌, ◌≤◌}
use Rattle.std.proofs.Common.{arith, sym, ap₂, ◌∙◌}
use Rattle.std.specs.Prelude.{◌≡◌, Bool, false, get_or, drop}
use Rattle.std.proofs.Math.Path.{refl, ap}
use Rattle.std.proofs.Math.Bool.{true, ◌&&◌, and-true, and-false, and_assoc}
use Rattle.std.proofs.Math.Option.{Option, none, some}
use mathlib.Core.List.{List, Memᴰ}
use Rattle.std.proofs.Math.Dec.{eqb}
use Rattle.std.proofs.Math.ListN.{get_or-eq_default}
use borrow.Author.Tests.{eqb-true, eqb-false, ne_eqb, lt-ltb}
use Rattle.lists.specs.Cases.{maybe, by_bool, clash}
use Rattle.lists.specs.Bytes.{Bytes}
use Rattle.lists.specs.Tests.{all_of}
use Rattle.lists.specs.Chunks.{chunks}
use Rattle.event.specs.declared.Grant.{Grant}
use Rattle.event.specs.declared.Body.{Body}
use Rattle.event.specs.declared.Body.TheVariants.{Create as create, Grant as grant, Revoke as revoke, Join as join, Unplug as unplug}
use Rattle.event.specs.Fields.{parent_count, parent_ids, parent_id, event_at}
use Rattle.model.specs.Events.{Id, Event, creates as creates_body, revokes, is_create, is_grant, is_revoke}
use Rattle.model.specs.Heights.{find_in, View, view, ancestor}
use Rattle.model.specs.Verdicts.{given_by, parents_sound as parents_sound_in, presented_grant, to_author, has_right, permits, target_suits, sound_from, sound}
use Rattle.model.proofs.HeightLaws.{height→, settled→}
use Rattle.model.specs.SoundLaws.{SoundBy}
use Rattle.model.proofs.SoundLaws.{sound-settled, sound_law, sound-creator, sound→}
use Rattle.model.specs.Store.{event_of, held_in}
use Rattle.model.proofs.Packing.{kind_other}
use Rattle.std.specs.Prelude.{Ok as Held, Err}
use Rattle.store.specs.Tables.{slot_in}
use Rattle.ordering.specs.Named.{no_place, place_by}
use Rattle.ordering.specs.LevelLaws.{Later}
use Rattle.ordering.proofs.LevelLaws.{entry_some, entry_none, first_some}
use Rattle.ordering.proofs.LevelLaws.{level_from, by_slot, second_parent, third_parent, creates, later, levels_heights}
use Rattle.ordering.specs.Placed.{held_at, id_of}
use Rattle.ordering.proofs.Placed.{slot_place}
use Rattle.tables.specs.declared.BitRow.{BitRow}
use Rattle.authority.specs.Found.{given_at, grant_in, given_grant}
use Rattle.authority.specs.Lines.{Authority}
use Rattle.authority.specs.Sound.{parent_sound, parents_sound, permits_by, target_suits_at, sound_at, SoundTable}
use Rattle.authority.specs.PlaceLaws.{Tables, AncestorAt, few, found, level_is, settled_at, level_of_lem, by_presented, by_target, no_target, target_is}

-- three tests, as a list's tests are put together
pub and-three : (a b c : Bool) → (a && b && c) ≡ (a && (b && (c && true)))
and-three a b c = rw (and-true c) (and_assoc a b c)

-- a revoke is no create
pub revoke_other : (b : Body) → revokes b ≡ true → creates_body b ≡ false
revoke_other create t = clash false t refl
revoke_other (grant g) t = refl
revoke_other revoke t = refl
revoke_other (join c) t = refl
revoke_other (unplug a) t = refl

module _ {store : Bytes} {n : ℕ} {ids : Bytes} {index P T : List ℕ} {M : List BitRow} {Q G : List ℕ} (tables : Tables store n ids index P T M Q G)
    (S : List Bool) (l : List ℕ) (sounding : SoundTable store P Q G l S)
    (all_in : (k : ℕ) → k < n → (get_or T k 0 ≡ 0 → ⊥) → Memᴰ k l)
    (only-settled : (k : ℕ) → Memᴰ k l → get_or T k 0 ≡ 0 → ⊥) where
  abbrev held : List Event
  held = held_in store n

  abbrev seen : View
  seen = view (held_in store n)

  abbrev Settled : ℕ → Type 0
  Settled k = get_or T k 0 ≡ 0 → ⊥

  -- what stands behind the creator
  later_at : (k : ℕ) → k < n → (k ≡ 0 → ⊥) → Later (event_at store k)
  later_at = later tables.levelled.loaded

  abbrev Right : ℕ → Type 0
  Right k = get_or S k false ≡ sound seen (id_of store k)

  -- a settled place, all below which are right
  module _ (k : ℕ) (h : k < n) (s : Settled k) (not_first : k ≡ 0 → ⊥) (right : (q : ℕ) → q < n → get_or T q 0 < get_or T k 0 → Right q) where
    no_create : is_create (held_at store k) ≡ false
    no_create = kind_other (event_at store k) (later_at k h not_first).no_create

    -- a parent is settled and has a lower level: the table is right about it
    parent_is : (a : Id) → Memᴰ a (held_at store k).parents → parent_sound S (place_by ids index a) ≡ sound seen a
    parent_is a m = by_slot (slot_in ids 0 index a) at gone
      where
        level : (get_or T (place_by ids index a) 0 ≡ 0 → ⊥) × (get_or T (place_by ids index a) 0 < get_or T k 0)
        level =
            let w = settled→ seen (id_of store k) (settled_at tables k h s) in
            let u = (height→ held (id_of store k) (held_at store k) w.0 (found tables k h) no_create w.1).each a m in
            let above = levels_heights tables.levelled a in
            let below = level_from (get_or T (place_by ids index a) 0) u.0 (above ∙ u.1) in
            let here = level_from (get_or T k 0) w.0 (level_is tables k h ∙ w.1) in
            ((λ z. omega (arith, below, z)), omega (arith, below, here, u.2))

        at : (p : ℕ) → slot_in ids 0 index a ≡ Held p → parent_sound S (place_by ids index a) ≡ sound seen a
        at p e =
            let place = slot_place tables.levelled.loaded a p e in
            rw (e, ne_eqb p no_place (λ z. omega (arith, few tables, place.0, z))) (right p place.0 (rw e at level.1) ∙ ap (sound seen) place.1)

        gone : (g : ℕ) → slot_in ids 0 index a ≡ Err g → parent_sound S (place_by ids index a) ≡ sound seen a
        gone g e = absurd (level.0 (rw e (get_or-eq_default T 0 (omega (arith, few tables, tables.levelled.long)))))

    -- where parent j stands, and that no parent j is
    place_some : (j : ℕ) → j < 3 → j < parent_count (event_at store k) → get_or P (k * 5 + j) 0 ≡ place_by ids index (parent_id (event_at store k) j)
    place_some j = entry_some tables.levelled.loaded tables.levelled.reads k j h

    place_none : (j : ℕ) → j < 3 → parent_count (event_at store k) ≤ j → get_or P (k * 5 + j) 0 ≡ no_place
    place_none j = entry_none tables.levelled.loaded tables.levelled.reads k j h

    place_first : 1 ≤ parent_count (event_at store k) → get_or P (k * 5) 0 ≡ place_by ids index (parent_id (event_at store k) 0)
    place_first = first_some tables.levelled.loaded tables.levelled.reads k h

    parents_are : parents_sound P S k ≡ parents_sound_in (sound seen) (held_at store k)
    unfolding parents_sound parents_sound_in event_of parent_ids chunks
    parents_are = go (parent_count (event_at store k)) refl parent_is
      where
        id : ℕ → Id
        id j = parent_id (event_at store k) j

        Each : ℕ → Type 0
        Each c = (a : Id) → Memᴰ a (chunks 32 (drop 96 (event_at store k)) c) → parent_sound S (place_by ids index a) ≡ sound seen a

        go : (c : ℕ) → parent_count (event_at store k) ≡ c → Each c
            → parents_sound P S k ≡ all_of (sound seen) (chunks 32 (drop 96 (event_at store k)) c)
        go zero e each =
            let z : ⊥ = omega (arith, (later_at k h not_first).parents_from) in
            absurd z
        go (suc zero) e each =
            let one = each (id 0) (Memᴰ.head refl) in
            rw (place_first (omega arith), place_none 1 (omega arith) (omega arith), place_none 2 (omega arith) (omega arith), one)
            (and-true (sound seen (id 0) && true))
        go (suc (suc zero)) e each =
            let one = each (id 0) (Memᴰ.head refl) in
            let two = each (id 1) (Memᴰ.tail (Memᴰ.head (sym (second_parent (event_at store k))))) in
            rw (
              place_first (omega arith),
              place_some 1 (omega arith) (omega arith),
              place_none 2 (omega arith) (omega arith),
              one,
              two,
              second_parent (event_at store k),
            )
            (and_assoc (sound seen (id 0)) (sound seen (id 1)) true)
        go (suc (suc (suc zero))) e each =
            let one = each (id 0) (Memᴰ.head refl) in
            let two = each (id 1) (Memᴰ.tail (Memᴰ.head (sym (second_parent (event_at store k))))) in
            let three = each (id 2) (Memᴰ.tail (Memᴰ.tail (Memᴰ.head (sym (third_parent (event_at store k)))))) in
            rw (
              place_first (omega arith),
              place_some 1 (omega arith) (omega arith),
              place_some 2 (omega arith) (omega arith),
              one,
              two,
              three,
              second_parent (event_at store k),
              third_parent (event_at store k),
            )
            (and-three (sound seen (id 0)) (sound seen (id 1)) (sound seen (id 2)))
        go (suc (suc (suc (suc c)))) e each =
            let z : ⊥ = omega (arith, (later_at k h not_first).parents_to) in
            absurd z

    -- what P gives, by places and in the model
    permitted : (g : Grant) → permits (held_at store k) g ≡ permits_by (held_at store k).author (held_at store k).body g
    unfolding permits to_author has_right permits_by
    permitted g = refl

    granted : (p : ℕ) → AncestorAt store n k (held_at store k).presented p
        → presented_grant seen (held_at store k) ≡ given_by (held_at store p).author (held_at store p).body
    unfolding presented_grant
    granted p w = rw (w.is_ancestor, ap (find_in held) (sym w.id_is) ∙ found tables p w.inside)

    -- the conditions by places are the model's
    abbrev by_places : Bool
    by_places =
        parents_sound P S k
        && maybe false (permits_by (held_at store k).author (held_at store k).body) (grant_in (given_at store (get_or Q k 0)))
        && target_suits_at Q (held_at store k).body (get_or Q k 0) (get_or G k 0)

    abbrev conditions : Bool
    conditions =
        parents_sound_in (sound seen) (held_at store k)
        && maybe false (permits (held_at store k)) (presented_grant seen (held_at store k))
        && target_suits seen (held_at store k)

    conditions_are : by_places ≡ conditions
    unfolding presented_grant given_at event_of
    conditions_are =
        by_presented tables k h s
        (λ p e w.
        rw (e, lt-ltb p 256 (omega (arith, w.inside, few tables)), given_grant p (gives p), granted p w)
        (ap₂ ◌&&◌ (ap₂ ◌&&◌ parents_are (same (gives p))) (sym (target_is tables k p h s w))))
        (λ e f. rw (e, f, and-false (parents_sound P S k), and-false (parents_sound_in (sound seen) (held_at store k))))
      where
        gives : ℕ → Option Grant
        gives p = given_by (held_at store p).author (held_at store p).body

        same : (o : Option Grant)
            → maybe false (permits_by (held_at store k).author (held_at store k).body) o ≡ maybe false (permits (held_at store k)) o
        same none = refl
        same (some g) = sym (permitted g)

    other_row : sound_at store P Q G S k ≡ sound seen (id_of store k)
    unfolding sound_at sound_from event_of
    other_row =
        rw (ne_eqb k 0 not_first, sound_law held (id_of store k) (held_at store k) (found tables k h) (settled_at tables k h s), no_create)
        conditions_are

  row : (k : ℕ) → k < n → Settled k → ((q : ℕ) → q < n → get_or T q 0 < get_or T k 0 → Right q) → Right k
  unfolding sound_at
  row k h s right =
      sounding.made k (all_in k h s)
      ∙ by_bool (eqb k 0) first (λ f. other_row k h s (eqb-false k 0 f) right)
    where
      first : eqb k 0 ≡ true → sound_at store P Q G S k ≡ sound seen (id_of store k)
      first t =
          let e : k ≡ 0 = eqb-true k 0 t in
          let c : is_create (held_at store k) ≡ true = rw e (creates tables.levelled.loaded) in
          rw (t, sound-creator held (id_of store k) (held_at store k) (found tables k h) c)

  -- a sound event is settled
  sound_level : (k : ℕ) → k < n → sound seen (id_of store k) ≡ true → Settled k
  sound_level k h t = level_of_lem tables k h (sound-settled held (id_of store k) t)

  waits : (k : ℕ) → k < n → get_or T k 0 ≡ 0 → Right k
  waits k h z =
      sounding.rest k (λ m. only-settled k m z)
      ∙ by_bool (sound seen (id_of store k))
      (λ t. absurd (sound_level k h t z))
      (λ f. sym f)

  -- by induction over the levels
  rows : (f k : ℕ) → get_or T k 0 ≤ f → k < n → Right k
  rows zero k l h = waits k h (omega arith)
  rows (suc f) k l h =
      by_bool (eqb (get_or T k 0) 0)
      (λ t. waits k h (eqb-true (get_or T k 0) 0 t))
      (λ g. row k h (eqb-false (get_or T k 0) 0 g) (λ q lq lt. rows f q (omega arith) lq))

  conditions_of : (k : ℕ) → k < n → is_create (held_at store k) ≡ false → sound seen (id_of store k) ≡ true → SoundBy seen (held_at store k)
  conditions_of k h other t = sound→ held (id_of store k) (held_at store k) (found tables k h) other t

  presents_at : (k : ℕ) → k < n → (k ≡ 0 → ⊥) → sound seen (id_of store k) ≡ true
      → (get_or Q k 0 < n) × ((held_at store k).presented ≡ id_of store (get_or Q k 0))
  presents_at k h not_first t =
      by_presented tables k h (sound_level k h t)
      (λ p e w. rw e (w.inside, sym w.id_is))
      (λ e f.
      let other = kind_other (event_at store k) (later_at k h not_first).no_create in
      clash (ancestor seen (id_of store k) (held_at store k).presented) (conditions_of k h other t).presents_ancestor f)

  names_at : (k : ℕ) → k < n → is_revoke (held_at store k) ≡ true → sound seen (id_of store k) ≡ true
      → (get_or G k 0 < n) × ((held_at store k).target ≡ id_of store (get_or G k 0))
  names_at k h r t =
      by_target tables k h (sound_level k h t) r
      (λ q e u. rw e (u.named.inside, sym u.named.id_is))
      (λ e f.
      let c = (conditions_of k h (revoke_other (held_at store k).body r) t).target_suits_lem r in
      clash (ancestor seen (id_of store k) (held_at store k).target && maybe false is_grant (find_in held (held_at store k).target))
      (rw (c.target_ancestor, c.target_found, c.target_grants)) f)

  -- from the tables of a good store, `l` holding the settled places and no others
  pub authority : Authority store n Q G S
  authority =
      record {
        sound_is = λ k h. rows (get_or T k 0) k (omega arith) h;
        presents = presents_at;
        names = names_at;
        no_target = λ k h f t. no_target tables k h (sound_level k h t) f;
      }

-- The bundle that write-out writes of a set: its events, and its size.
use Prim.Native.Nat.{◌+◌, ◌*◌, ◌≤◌}
use native.Mathlib.Omega.{arith}
use mathlib.Core.Path.{◌≡◌, refl, sym, ap, ◌∙◌}
use mathlib.Core.Logic.{⊎_elim}
use mathlib.Core.Bool.{Bool, true}
use mathlib.Core.Option.{none, some-injective}
use mathlib.Core.List.Memᴰ
use mathlib.Core.List.{List, [], ◌++◌, map, flatten, Memᴰ}
use lib.ListN.{length, length-append, length-map}
use Rattle.lists.specs.Cases.{by_bool, clash_option}
use Rattle.lists.specs.Bytes.{Bytes}
use Rattle.lists.specs.Tests.{keep, Within, SameMembers}
use Rattle.lists.proofs.Tests.{keep_split}
use Rattle.lists.proofs.Sorting.{sort_length}
use Rattle.lists.specs.Chunks.{AllOfLength, length-flatten}
use Rattle.model.specs.Events.{Event}
use Rattle.model.specs.Store.{event_of}
use Rattle.model.specs.Bundle.{trailer, packed, bundle_good, events_in, unpacked}
use Rattle.model.specs.Heights.{view, settled, order_key, order, waiting, written}
use Rattle.model.specs.Rows.{written_bytes}
use Rattle.model.proofs.OrderLaws.{order→, order←, waiting→, waiting←}
use Rattle.model.proofs.Packing.{trailer-length, unpacked-packed}
use Rattle.claims.specs.Told.{set_view}

-- the written events' bytes
abbrev pub raws : List Bytes → List Bytes
raws s = map (λ e. e.raw) (written (set_view s))

written-length : (es : List Event) → length (written (view es)) ≡ length es
unfolding written order waiting
written-length es =
    let is_settled : Event → Bool = λ e. settled (view es) e.ident in
    let all = (view es).by_id in
    let a = length-append (order (view es)) (waiting (view es)) in
    let b = sort_length (order_key (view es)) (keep is_settled all) in
    let c = keep_split is_settled all in
    let d = sort_length (λ (e : Event). e.ident) es in
    omega arith

module _ (s : List Bytes) where
  pub raws-length : length (raws s) ≡ length s
  raws-length = length-map (written (set_view s)) (λ (e : Event). e.raw) ∙ written-length (map event_of s) ∙ length-map s event_of

  raw→ : Within (raws s) s
  unfolding written event_of
  raw→ y i =
      let w = Memᴰ.of_map (λ (e : Event). e.raw) (written (set_view s)) i in
      let held = ⊎_elim
      (λ j. (order→ (map event_of s) w.0 j).0)
      (λ j. (waiting→ (map event_of s) w.0 j).0)
      (Memᴰ.append_cases (order (set_view s)) w.1) in
      let x = Memᴰ.of_map event_of s held in
      Memᴰ.cast (sym (ap (λ (e : Event). e.raw) x.2 ∙ w.2)) x.1

  raw← : Within s (raws s)
  unfolding written event_of
  raw← x i = Memᴰ.map (λ (e : Event). e.raw) listed
    where
      e : Event
      e = event_of x

      held : Memᴰ e (map event_of s)
      held = Memᴰ.map event_of i

      listed : Memᴰ e (order (set_view s) ++ waiting (set_view s))
      listed =
          by_bool (settled (set_view s) e.ident)
          (λ t. Memᴰ.append_left (waiting (set_view s)) (order← (map event_of s) e held t))
          (λ f. Memᴰ.append_right (order (set_view s)) (waiting← (map event_of s) e held f))

  -- the written events are those of the set
  pub raws_members : SameMembers (raws s) s
  raws_members = (raw→, raw←)

  module _ (long : AllOfLength 192 s) where
    all_long : AllOfLength 192 (raws s)
    all_long x i = long x (raw→ x i)

    -- 192 bytes for each event, and 12 for the trailer
    pub written_size_lem : length (written_bytes (set_view s)) ≡ 192 * length s + 12
    unfolding written_bytes packed
    written_size_lem =
        let a = length-append (flatten (raws s)) (trailer (length (raws s))) in
        let b = length-flatten 192 (raws s) all_long in
        let c = trailer-length (length (raws s)) in
        let d = raws-length in
        omega arith

    -- check 8 passes it, and its events are the written ones
    pub written_read : length s ≤ 256
        → (bundle_good (written_bytes (set_view s)) ≡ true) × (events_in (written_bytes (set_view s)) ≡ raws s)
    unfolding written_bytes unpacked
    written_read h =
        let few : length (raws s) ≤ 256 = omega (arith, raws-length) in
        let read = unpacked-packed [] (raws s) all_long few in
        by_bool (bundle_good (packed (raws s)))
        (λ t. (t, some-injective (events_in (packed (raws s))) (raws s) (rw t at read)))
        (λ f. clash_option none (raws s) refl (rw f at read))

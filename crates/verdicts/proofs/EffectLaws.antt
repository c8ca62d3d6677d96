-- The table of effects and the verdicts are the model's.
use Prim.Native.Nat.{ℕ, zero, suc, ◌<◌, ◌≤◌}
use native.Mathlib.Omega.{arith}
use mathlib.Core.Path.{◌≡◌, refl, sym, ap, ◌∙◌, subst}
use mathlib.Core.Logic.{◌⊎◌, inl, inr, ⊎_elim}
use mathlib.Core.Bool.{Bool, true, false, not, ◌&&◌, ◌||◌, cond}
use mathlib.Core.Option.{some}
use mathlib.Core.List.Memᴰ
use mathlib.Core.List.{
  List,
  [],
  ◌∷◌,
  Memᴰ,
}
use lib.Dec.{eqb, ltb}
use lib.ListN.{get_or}
use borrow.Author.Tests.{eqb-true, eqb-false, eq-eqb, ne_eqb, ltb-true, lt-ltb}
use Rattle.lists.specs.Cases.{by_bool, clash, bool_eq, and→, and←, or→, or←l, or←r}
use Rattle.lists.specs.Bytes.{Bytes}
use Rattle.lists.specs.Tests.{member_of}
use Rattle.lists.proofs.Tests.{member→, member←}
use Rattle.event.specs.Fields.{event_at}
use Rattle.model.specs.Events.{Id, Event, is_create, is_revoke}
use Rattle.model.specs.Heights.{find_in, View, view, settled, ancestor}
use Rattle.model.specs.Verdicts.{line, sound, effective, void, verdict}
use Rattle.model.proofs.HeightLaws.{settled→, height_found}
use Rattle.model.proofs.AncestryLaws.{ancestor-settled}
use Rattle.model.proofs.LineLaws.{line-creator, on_line_lem}
use Rattle.model.proofs.SetLaws.{find→}
use Rattle.model.proofs.SoundLaws.{sound-settled, sound-creator, sound→, presents}
use Rattle.model.specs.VoidLaws.{Struck as StruckEvent, EffectiveBy}
use Rattle.model.proofs.VoidLaws.{effective_unique}
use Rattle.model.specs.Store.{event_of, held_in}
use Rattle.model.proofs.Packing.{kind_other}
use Rattle.store.specs.Tables.{slot_in}
use Rattle.ordering.specs.Named.{place_by}
use Rattle.ordering.proofs.LevelLaws.{by_slot, own_place, creates, later}
use Rattle.ordering.specs.Order.{ranked}
use Rattle.ordering.proofs.OrderLaws.{ranked→, ranked←}
use Rattle.ordering.specs.Placed.{held_at, id_of}
use Rattle.ordering.proofs.Placed.{place_of, held-at, one_id, slot_place, level_low, settled_in, in_settled}
use Rattle.authority.specs.Lines.{Authority}
use Rattle.authority.proofs.AuthorityLaws.{revoke_other}
use Rattle.authority.specs.PlaceLaws.{Tables, few, found, level_is, level_of_lem, lower}
use Rattle.verdicts.specs.Effects.{Within, Graded, Struck, Effects}
use Rattle.tables.specs.declared.BitRow.{BitRow}
use Rattle.tables.specs.Filling.{Filled}
use Rattle.verdicts.specs.declared.Verdict.TheVariants.{Unsound, Void, Effective}
use Rattle.verdicts.specs.Numbers.{verdict_number}
use Rattle.verdicts.specs.Verdicts.{rank_of, verdict_of}

-- place t is on the line of place k
unfoldable pub on_line : Bytes → ℕ → ℕ → ℕ → Bool
on_line store n k t = ltb t n && member_of (id_of store t) (line (view (held_in store n)) (id_of store k))

module _ {store : Bytes} {n : ℕ} {ids : Bytes} {index P T : List ℕ} {M : List BitRow} {Q G : List ℕ}
    (tables : Tables store n ids index P T M Q G) (S : List Bool) (auth : Authority store n Q G S) where
  abbrev held : List Event
  held = held_in store n

  abbrev seen : View
  seen = view (held_in store n)

  same_id : (p k : ℕ) → p < n → k < n → id_of store p ≡ id_of store k → p ≡ k
  same_id = one_id tables.levelled.loaded

  -- a sound place other than the creator's
  record Later (k : ℕ) : Type 0 where
    low : k < n
    not_first : k ≡ 0 → ⊥
    is_sound : sound seen (id_of store k) ≡ true

  no_create : (k : ℕ) → k < n → (k ≡ 0 → ⊥) → is_create (held_at store k) ≡ false
  no_create k h ne = kind_other (event_at store k) (later tables.levelled.loaded k h ne).no_create

  first_low : 0 < n
  first_low = omega (arith, tables.levelled.loaded.at_least)

  first_line : line seen (id_of store 0) ≡ []
  first_line = line-creator held (id_of store 0) (held_at store 0) (found tables 0 first_low) (creates tables.levelled.loaded)

  settled_some : (k : ℕ) → k < n → sound seen (id_of store k) ≡ true → get_or T k 0 ≡ 0 → ⊥
  settled_some k h s = level_of_lem tables k h (sound-settled held (id_of store k) s)

  -- what such a place presents
  record Presented (k : ℕ) : Type 0 where
    low : get_or Q k 0 < n
    is_sound : sound seen (id_of store (get_or Q k 0)) ≡ true
    line_is : line seen (id_of store k) ≡ (id_of store (get_or Q k 0) ∷ line seen (id_of store (get_or Q k 0)))
    level_given : get_or T (get_or Q k 0) 0 ≡ 0 → ⊥

  presented_id : (k : ℕ) → Later k → (held_at store k).presented ≡ id_of store (get_or Q k 0)
  presented_id k a = (auth.presents k a.low a.not_first a.is_sound).1

  presented_of_lem : (k : ℕ) → Later k → Presented k
  presented_of_lem k a =
      let id = presented_id k a in
      let p = presents held (id_of store k) (held_at store k) (found tables k a.low) (no_create k a.low a.not_first) a.is_sound in
      let inside = (auth.presents k a.low a.not_first a.is_sound).0 in
      let s : sound seen (id_of store (get_or Q k 0)) ≡ true = ap (sound seen) (sym id) ∙ p.is_sound in
      record {
        low = inside;
        is_sound = s;
        line_is = p.line_is ∙ ap (λ (i : Id). i ∷ line seen i) id;
        level_given = settled_some (get_or Q k 0) inside s;
      }

  -- ── lines ───────────────────────────────────────────────────────────────────────────────────────────────────────────

  on→ : (k t : ℕ) → on_line store n k t ≡ true → (t < n) × Memᴰ (id_of store t) (line seen (id_of store k))
  unfolding on_line
  on→ k t y =
      let w = and→ (ltb t n) (member_of (id_of store t) (line seen (id_of store k))) y in
      (ltb-true t n w.0, member→ (id_of store t) (line seen (id_of store k)) w.1)

  on← : (k t : ℕ) → t < n → Memᴰ (id_of store t) (line seen (id_of store k)) → on_line store n k t ≡ true
  unfolding on_line
  on← k t h m =
      and← (ltb t n) (member_of (id_of store t) (line seen (id_of store k))) (lt-ltb t n h)
      (member← (id_of store t) (line seen (id_of store k)) m)

  on_step : (k t : ℕ) → Later k → on_line store n k t ≡ (eqb t (get_or Q k 0) || on_line store n (get_or Q k 0) t)
  on_step k t a =
      bool_eq (on_line store n k t) (eqb t q || on_line store n q t)
      (λ y.
      let w = on→ k t y in
      ⊎_elim
      (λ e. or←l (eqb t q) (on_line store n q t) (eq-eqb t q (same_id t q w.0 p.low e)))
      (λ m. or←r (eqb t q) (on_line store n q t) (on← q t w.0 m))
      (Memᴰ.cases_cons (rw p.line_is at w.1)))
      (λ y. ⊎_elim
      (λ e. let s : t ≡ q = eqb-true t q e in on← k t (omega (arith, s, p.low)) (rw p.line_is (Memᴰ.head (ap (id_of store) s))))
      (λ u. let w = on→ q t u in on← k t w.0 (rw p.line_is (Memᴰ.tail w.1)))
      (or→ (eqb t q) (on_line store n q t) y))
    where
      q : ℕ
      q = get_or Q k 0

      p : Presented k
      p = presented_of_lem k a

  -- what has a line is not the creator
  on_later : (k t : ℕ) → k < n → sound seen (id_of store k) ≡ true → on_line store n k t ≡ true → Later k
  on_later k t h s y =
      record {
        low = h;
        not_first = λ e. Memᴰ.not-nil (rw (ap (λ (x : ℕ). line seen (id_of store x)) e ∙ first_line) at (on→ k t y).1);
        is_sound = s;
      }

  on_lower : (k t : ℕ) → k < n → settled seen (id_of store k) ≡ true → on_line store n k t ≡ true → get_or T t 0 < get_or T k 0
  on_lower k t h st y =
      let w = on→ k t y in
      (lower tables k t h w.0 (on_line_lem held (id_of store k) (id_of store t) st w.1).is_ancestor).1

  -- what a place presents has a lower level
  presented_lower : (k : ℕ) → Later k → get_or T (get_or Q k 0) 0 < get_or T k 0
  presented_lower k a =
      on_lower k (get_or Q k 0) a.low (sound-settled held (id_of store k) a.is_sound)
      (on_step k (get_or Q k 0) a ∙ or←l (eqb (get_or Q k 0) (get_or Q k 0)) (on_line store n (get_or Q k 0) (get_or Q k 0)) (eq-eqb (get_or Q k 0) (get_or Q k 0) refl))

  -- ── targets ─────────────────────────────────────────────────────────────────────────────────────────────────────────

  -- what has a target is a revoke, and that is its target's id
  record Revoke (r : ℕ) : Type 0 where
    is_revoke_lem : is_revoke (held_at store r) ≡ true
    target_low : get_or G r 0 < n
    target_id : (held_at store r).target ≡ id_of store (get_or G r 0)

  revoke_of : (r : ℕ) → r < n → sound seen (id_of store r) ≡ true → is_revoke (held_at store r) ≡ true → Revoke r
  revoke_of r h s t = let w = auth.names r h t s in record { is_revoke_lem = t; target_low = w.0; target_id = w.1 }

  revoke_by : (r : ℕ) → r < n → sound seen (id_of store r) ≡ true → get_or G r 0 < n → Revoke r
  revoke_by r h s l =
      by_bool (is_revoke (held_at store r))
      (λ t. revoke_of r h s t)
      (λ f.
      let z : ⊥ = omega (arith, auth.no_target r h f s, l, few tables) in
      absurd z)

  later_revoke : (r : ℕ) → r < n → sound seen (id_of store r) ≡ true → is_revoke (held_at store r) ≡ true → Later r
  later_revoke r h s t =
      record {
        low = h;
        not_first = λ e.
            clash (is_create (held_at store r))
            (ap (λ (x : ℕ). is_create (held_at store x)) e ∙ creates tables.levelled.loaded)
            (revoke_other (held_at store r).body t);
        is_sound = s;
      }

  -- the target of a revoke has a higher level than what the revoke presents
  target_higher : (r : ℕ) → Later r → Revoke r → get_or T (get_or Q r 0) 0 < get_or T (get_or G r 0) 0
  target_higher r a v =
      let by = sound→ held (id_of store r) (held_at store r) (found tables r a.low) (no_create r a.low a.not_first) a.is_sound in
      let t = by.target_suits_lem v.is_revoke_lem in
      let above =
      on← (get_or G r 0) (get_or Q r 0) (presented_of_lem r a).low
      (rw (sym v.target_id) (Memᴰ.cast (sym (presented_id r a)) t.presents_above)) in
      on_lower (get_or G r 0) (get_or Q r 0) v.target_low
      (ap (settled seen) (sym v.target_id) ∙ ancestor-settled held (held_at store r).ident (held_at store r).target t.target_ancestor) above

  -- what can strike a place presents a place of lower level
  strike_lower : (r k : ℕ) → Later r → Later k → on_line store n k (get_or G r 0) ≡ true → get_or T (get_or Q r 0) 0 < get_or T (get_or Q k 0) 0
  strike_lower r k a b y =
      let v = revoke_by r a.low a.is_sound (on→ k (get_or G r 0) y).0 in
      let higher = target_higher r a v in
      let p = presented_of_lem k b in
      ⊎_elim
      (λ e. omega (arith, higher, ap (λ (x : ℕ). get_or T x 0) (eqb-true (get_or G r 0) (get_or Q k 0) e)))
      (λ u. omega (arith, higher, on_lower (get_or Q k 0) (get_or G r 0) p.low (sound-settled held (id_of store (get_or Q k 0)) p.is_sound) u))
      (or→ (eqb (get_or G r 0) (get_or Q k 0)) (on_line store n (get_or Q k 0) (get_or G r 0)) (sym (on_step k (get_or G r 0) b) ∙ y))

  -- ── the list by rank ────────────────────────────────────────────────────────────────────────────────────────────────

  -- l are the settled places
  module _ (R l : List ℕ) (ranks : Filled (rank_of T Q S) n R) (settled-places : l ≡ ranked T index 256) where
    abbrev by_rank : List ℕ
    by_rank = ranked R l 256

    rank_is : (k : ℕ) → Later k → get_or R k 0 ≡ get_or T (get_or Q k 0) 0
    unfolding rank_of
    rank_is k a =
        let held = lt-ltb (get_or Q k 0) 256 (omega (arith, (presented_of_lem k a).low, few tables)) in
        ranks.entry k a.low ∙ rw (ne_eqb k 0 a.not_first, auth.sound_is k a.low, a.is_sound, held)

    -- exactly the sound places other than the creator's
    in_list : (k : ℕ) → Later k → Memᴰ k by_rank
    in_list k a =
        let p = presented_of_lem k a in
        let e = rank_is k a in
        ranked← R l 256 k (subst (Memᴰ k) (sym settled-places) (settled_in tables.levelled k a.low (settled_some k a.low a.is_sound)))
        (omega (arith, e, p.level_given)) (omega (arith, e, level_low tables.levelled (get_or Q k 0)))

    of-list : (k : ℕ) → Memᴰ k by_rank → Later k
    unfolding rank_of
    of-list k m =
        by_bool (eqb k 0)
        (λ t. none (ranks.entry k h ∙ rw t))
        (λ f. by_bool (get_or S k false)
        (λ t. record { low = h; not_first = eqb-false k 0 f; is_sound = sym (auth.sound_is k h) ∙ t })
        (λ g. none (ranks.entry k h ∙ rw (f, g))))
      where
        w : Memᴰ k l × (1 ≤ get_or R k 0) × (get_or R k 0 ≤ 256)
        w = ranked→ R l 256 k m

        h : k < n
        h = (in_settled tables.levelled k (subst (Memᴰ k) settled-places w.0)).0

        none : get_or R k 0 ≡ 0 → Later k
        none e = let z : ⊥ = omega (arith, e, w.1) in absurd z

    -- they fit the tables
    pub listed_fit : Within Q by_rank
    listed_fit =
        record {
          each = λ k m. let a = of-list k m in (omega (arith, a.low, few tables), omega (arith, (presented_of_lem k a).low, few tables));
        }

    -- what the loop over the list asks for
    pub graded : Graded (on_line store n) (λ k. get_or R k 0) Q G by_rank
    graded =
        record {
          not_first = λ k m. (of-list k m).not_first;
          line = λ k t m. on_step k t (of-list k m);
          presents = λ k t m y. above k (of-list k m) (on_later (get_or Q k 0) t (presented_of_lem k (of-list k m)).low (presented_of_lem k (of-list k m)).is_sound y);
          aims =
              λ r k m j y.
              let a = of-list r m in
              let b = of-list k j in
              omega (arith, rank_is r a, rank_is k b, strike_lower r k a b y);
        }
      where
        above : (k : ℕ) → Later k → Later (get_or Q k 0) → Memᴰ (get_or Q k 0) by_rank × (get_or R (get_or Q k 0) 0 < get_or R k 0)
        above k a b = (in_list (get_or Q k 0) b, omega (arith, rank_is (get_or Q k 0) b, rank_is k a, presented_lower (get_or Q k 0) b))

    -- ── the table of effects ──────────────────────────────────────────────────────────────────────────────────────────

    module _ (E : List Bool) (law : Effects (on_line store n) G M by_rank E) where
      -- the test of an id, by its place
      abbrev by_table : Id → Bool
      by_table i = get_or E (place_by ids index i) false

      by_table-at : (k : ℕ) → k < n → by_table (id_of store k) ≡ get_or E k false
      unfolding event_of
      by_table-at k h = ap (λ (p : ℕ). get_or E p false) (own_place tables.levelled.loaded k h)

      -- an id that is found is that of a place
      held_place : (i : Id) (e : Event) → find_in held i ≡ some e → (p : ℕ) × (p < n) × (i ≡ id_of store p)
      held_place i e q =
          let m = find→ held i e q in
          let w = place_of tables.levelled.loaded e m.0 in
          (w.0, w.1, sym m.1 ∙ ap (λ (x : Event). x.ident) w.2)

      effective-sound : (k : ℕ) → k < n → get_or E k false ≡ true → sound seen (id_of store k) ≡ true
      effective-sound k h y =
          by_bool (eqb k 0)
          (λ t.
          let first = sound-creator held (id_of store 0) (held_at store 0) (found tables 0 first_low) (creates tables.levelled.loaded) in
          ap (λ (x : ℕ). sound seen (id_of store x)) (eqb-true k 0 t) ∙ first)
          (λ f. by_bool (sound seen (id_of store k)) (λ t. t)
          (λ g.
          let out = law.others k (eqb-false k 0 f) (λ m. clash (sound seen (id_of store k)) (of-list k m).is_sound g) in
          clash (get_or E k false) y out))

      -- a revoke strikes a place in the table exactly when it strikes the event there
      struck→ : (k : ℕ) → Later k → StruckEvent held by_table (id_of store k) → Struck (on_line store n) G M by_rank E k
      struck→ k a x =
          let w = place_of tables.levelled.loaded x.revoker x.held in
          let r = w.0 in
          let same = w.2 in
          let id = ap (λ (e : Event). e.ident) same in
          let one = sym (by_table-at r w.1) ∙ ap by_table (sym id) ∙ x.is_effective in
          let s = effective-sound r w.1 one in
          let v = revoke_of r w.1 s (ap is_revoke (sym same) ∙ x.is_revoke_lem) in
          let target : x.revoker.target ≡ id_of store (get_or G r 0) = ap (λ (e : Event). e.target) same ∙ v.target_id in
          record {
            revoke = r;
            listed = in_list r (later_revoke r w.1 s v.is_revoke_lem);
            is_effective = one;
            target_on_line = on← k (get_or G r 0) v.target_low (Memᴰ.cast (sym target) x.target_on_line);
            not-ancestor =
                tables.ancestors.bit r k w.1 a.low (settled_some r w.1 s)
                ∙ ap (λ (i : Id). ancestor seen i (id_of store k)) (sym id) ∙ x.not-ancestor;
          }

      struck← : (k : ℕ) → Later k → Struck (on_line store n) G M by_rank E k → StruckEvent held by_table (id_of store k)
      struck← k a x =
          let r = x.revoke in
          let b = of-list r x.listed in
          let on = on→ k (get_or G r 0) x.target_on_line in
          let v = revoke_by r b.low b.is_sound on.0 in
          record {
            revoker = held_at store r;
            held = held-at tables.levelled.loaded r b.low;
            is_revoke_lem = v.is_revoke_lem;
            is_effective = by_table-at r b.low ∙ x.is_effective;
            target_on_line = Memᴰ.cast v.target_id on.1;
            not-ancestor = sym (tables.ancestors.bit r k b.low a.low (settled_some r b.low b.is_sound)) ∙ x.not-ancestor;
          }

      -- the creator, or a sound place behind it
      later_or_first : (k : ℕ) → k < n → sound seen (id_of store k) ≡ true → (k ≡ 0) ⊎ Later k
      later_or_first k h s =
          by_bool (eqb k 0)
          (λ t. inl (eqb-true k 0 t))
          (λ f. inr (record { low = h; not_first = eqb-false k 0 f; is_sound = s }))

      -- the test is the sentence's
      only-sound : (i : Id) → by_table i ≡ true → sound seen i ≡ true
      only-sound i y =
          by_slot (slot_in ids 0 index i)
          (λ p s.
          let w = slot_place tables.levelled.loaded i p s in
          ap (sound seen) (sym w.1)
          ∙ effective-sound p w.0 (sym (by_table-at p w.0) ∙ ap by_table w.1 ∙ y))
          (λ g s.
          let out = law.others 256 (λ e. omega arith) (λ m. omega (arith, (of-list 256 m).low, few tables)) in
          clash (get_or E 256 false) (rw s at y) out)

      -- an id that is sound is that of a place
      sound_place : (i : Id) → sound seen i ≡ true → (p : ℕ) × (p < n) × (i ≡ id_of store p)
      sound_place i s =
          let w = settled→ seen i (sound-settled held i s) in
          let x = height_found held i w.0 w.1 in
          held_place i x.0 x.1

      by_table_lem : EffectiveBy held by_table
      by_table_lem = record { only-sound = only-sound; not_struck = not_struck; all_others = all_others }
        where
          not_struck : (i : Id) → by_table i ≡ true → StruckEvent held by_table i → ⊥
          not_struck i y x =
              let s = only-sound i y in
              let w = sound_place i s in
              let p = w.0 in
              let x' = subst (StruckEvent held by_table) w.2 x in
              let one = sym (by_table-at p w.1) ∙ ap by_table (sym w.2) ∙ y in
              ⊎_elim
              (λ (e : p ≡ 0). Memᴰ.not-nil (rw (ap (λ (k : ℕ). line seen (id_of store k)) e ∙ first_line) at x'.target_on_line))
              (λ a. law.not_struck p (in_list p a) one (struck→ p a x'))
              (later_or_first p w.1 (ap (sound seen) (sym w.2) ∙ s))

          all_others : (i : Id) → sound seen i ≡ true → (StruckEvent held by_table i → ⊥) → by_table i ≡ true
          all_others i s unstruck =
              let w = sound_place i s in
              let p = w.0 in
              let one =
              ⊎_elim
              (λ (e : p ≡ 0). ap (λ (k : ℕ). get_or E k false) e ∙ law.creator)
              (λ a. law.unstruck p (in_list p a) (λ x. unstruck (subst (StruckEvent held by_table) (sym w.2) (struck← p a x))))
              (later_or_first p w.1 (ap (sound seen) (sym w.2) ∙ s)) in
              ap by_table w.2 ∙ by_table-at p w.1 ∙ one

      -- the table says so exactly where the event is effective
      effect_at : (k : ℕ) → k < n → get_or E k false ≡ effective seen (id_of store k)
      effect_at k h = sym (by_table-at k h) ∙ effective_unique held tables.levelled.loaded.distinct by_table by_table_lem (id_of store k)

      -- and the verdicts from it are the model's
      pub verdict-at : (Z : List ℕ) → Filled (λ k. verdict_number (verdict_of T S E k)) n Z → (k : ℕ) → k < n → get_or Z k 0 ≡ verdict seen (id_of store k)
      unfolding verdict_of verdict void
      verdict-at Z table k h = table.entry k h ∙ go (get_or T k 0) refl
        where
          turn : (s e : Bool) → verdict_number (cond s (cond e Effective Void) Unsound) ≡ cond s (cond (s && not e) 2 3) 1
          turn true true = refl
          turn true false = refl
          turn false e = refl

          go : (t : ℕ) → get_or T k 0 ≡ t → verdict_number (verdict_of T S E k) ≡ verdict seen (id_of store k)
          go zero e = rw (sym (level_is tables k h), e)
          go (suc t) e =
              rw (sym (level_is tables k h), e, ne_eqb (suc t) 0 (λ q. omega arith), auth.sound_is k h, effect_at k h)
              (turn (sound seen (id_of store k)) (effective seen (id_of store k)))

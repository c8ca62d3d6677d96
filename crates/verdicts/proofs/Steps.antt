-- The judgement of all places: what its steps hand on.
use Prim.Native.Nat.{ℕ, ◌<◌, ◌≤◌}
use native.Mathlib.Omega.{arith}
use mathlib.Core.Path.{◌≡◌, sym, ap, ◌∙◌, subst}
use mathlib.Core.Bool.{Bool, false}
use mathlib.Core.List.{List, [], ◌∷◌, ◌++◌, Memᴰ}
use lib.Dec.{eqb, ltb}
use lib.ListN.{length, get_or, take}
use lib.Seq.{take_at}
use Rattle.lists.specs.Bytes.{Bytes}
use Rattle.lists.specs.Cases.{by_bool}
use Rattle.lists.specs.Sorting.{Ascending}
use Rattle.lists.proofs.Sorting.{distinct_finer, ascending_distinct}
use Rattle.store.specs.Tables.{id_at}
use Rattle.ordering.specs.Levels.{Low}
use Rattle.ordering.specs.Order.{of_rank, ranked, Apart, Ordered}
use Rattle.ordering.proofs.OrderLaws.{ranked-ascending}
use Rattle.ordering.proofs.OrderLaws.{rank-rest}
use Rattle.ordering.specs.Placed.{Settled}
use Rattle.ordering.proofs.Placed.{index_long, index_ascends, level_low, settled_in, in_settled, ordered}
use Rattle.tables.specs.declared.BitRow.{BitRow}
use Rattle.tables.specs.Filling.{everywhere, Filled}
use Rattle.ancestry.specs.Ancestors.{AncestorRows}
use Rattle.ancestry.specs.AncestorLaws.{ancestor_bits}
use Rattle.authority.specs.Found.{NamedAncestors}
use Rattle.authority.specs.Lines.{Authority}
use Rattle.authority.specs.Sound.{SoundTable}
use Rattle.authority.specs.PlaceLaws.{Tables}
use Rattle.authority.proofs.AuthorityLaws.{authority}
use Rattle.verdicts.specs.Effects.{Within, ByRank, Graded, Effects}
use Rattle.verdicts.specs.Numbers.{verdict_number}
use Rattle.verdicts.specs.Verdicts.{rank_of, verdict_of, Judged}
use Rattle.verdicts.proofs.RankLaws.{by_rank_lem}
use Rattle.verdicts.proofs.EffectLaws.{on_line, listed_fit, graded, verdict-at}

-- what holds of the tables holds of those that are lent on
pub lent_on : {store store' : Bytes} {P P' Q G l : List ℕ} {S : List Bool} → (store' ≡ store) × (P' ≡ P)
    → SoundTable store' P' Q G l S → SoundTable store P Q G l S
lent_on same sounds = rw (same.0, same.1) at sounds

module _ {store : Bytes} {n : ℕ} {P T order : List ℕ} (settled : Settled store n P T order) where
  -- ── the settled places ────────────────────────────────────────────────────────────────────────────────────────────────

  pub behind_parents : Ordered P order
  behind_parents = subst (Ordered P) (sym settled.in_order) (ordered settled.levelled)

  abbrev key : ℕ → Bytes
  key k = get_or T k 0 ∷ id_at settled.ids k

  ascends : Ascending key order
  ascends =
      subst (Ascending key) (sym settled.in_order)
      (ranked-ascending T settled.index (id_at settled.ids) (index_ascends settled.levelled.loaded) 256)

  pub places_apart : Apart order
  places_apart = record { low = behind_parents.low; once = distinct_finer key (λ k. k ∷ []) same order (ascending_distinct key order ascends) }
    where
      same : (j k : ℕ) → j ∷ [] ≡ k ∷ [] → key j ≡ key k
      same j k q = ap (λ (l : List ℕ). key (get_or l 0 0)) q

  pub few_places : length order ≤ 256
  few_places =
      let parted = rank-rest T settled.index 256 (level_low settled.levelled) in
      omega (arith, ap length settled.in_order, parted, index_long settled.levelled.loaded, settled.levelled.loaded.at_most)

  -- ── the tables that the steps make ──────────────────────────────────────────────────────────────────────────────────────

  module _ {M : List BitRow} {Q G : List ℕ} {S : List Bool} (rows : AncestorRows P order M) (named : NamedAncestors store P M order Q G) (sounds : SoundTable store P Q G order S) where
    listed : (k : ℕ) → k < n → (get_or T k 0 ≡ 0 → ⊥) → Memᴰ k order
    listed k h ne = subst (Memᴰ k) (sym settled.in_order) (settled_in settled.levelled k h ne)

    tables : Tables store n settled.ids settled.index P T M Q G
    tables =
        record {
          levelled = settled.levelled;
          ancestors = ancestor_bits settled.levelled M order rows listed;
          presents = λ k h ne. named.presents k (listed k h ne);
          names = λ k h ne. named.names k (listed k h ne);
        }

    auth : Authority store n Q G S
    auth = authority tables S order sounds listed (λ k m. (in_settled settled.levelled k (subst (Memᴰ k) settled.in_order m)).1)

    -- ── the sound places by rank ──────────────────────────────────────────────────────────────────────────────────────────

    module _ {R : List ℕ} (size : length R ≡ 256) (ranks : Filled (rank_of T Q S) 256 R) where
      pub rank_low : Low R
      unfolding rank_of
      rank_low = everywhere (λ (v : ℕ). v ≤ 256) R (omega arith) (λ k l. within k (omega (arith, l, size)))
        where
          within : (k : ℕ) → k < 256 → get_or R k 0 ≤ 256
          within k h =
              by_bool (eqb k 0)
              (λ t. let e : get_or R k 0 ≡ 0 = ranks.entry k h ∙ rw t in omega arith)
              (λ f. by_bool (get_or S k false)
              (λ t. by_bool (ltb (get_or Q k 0) 256)
              (λ u. let e : get_or R k 0 ≡ get_or T (get_or Q k 0) 0 = ranks.entry k h ∙ rw (f, t, u) in omega (arith, e, level_low settled.levelled (get_or Q k 0)))
              (λ u. let e : get_or R k 0 ≡ 0 = ranks.entry k h ∙ rw (f, t, u) in omega arith))
              (λ g. let e : get_or R k 0 ≡ 0 = ranks.entry k h ∙ rw (f, g) in omega arith))

      below : Filled (rank_of T Q S) n R
      below = record { entry = λ k h. ranks.entry k (omega (arith, h, settled.levelled.loaded.at_most)) }

      -- l are those with a rank, the first `count` of all by rank
      module _ (out l : List ℕ) (count : ℕ) (counted : count ≡ length (ranked R order 256))
          (sorted : out ≡ ranked R order 256 ++ of_rank R order 0) (front : l ≡ take count out) where
        with-rank : l ≡ ranked R order 256
        with-rank = front ∙ ap (take count) sorted ∙ take_at (ranked R order 256) (of_rank R order 0) count (sym counted)

        -- they fit the tables
        pub fits : Within Q l
        fits = subst (Within Q) (sym with-rank) (listed_fit tables S auth R order below settled.in_order)

        -- from the effects to the verdicts
        pub judged : {E : List Bool} {Z : List ℕ}
            → ((on : ℕ → ℕ → Bool) (rank : ℕ → ℕ) → Graded on rank Q G l → ByRank rank l → Effects on G M l E)
            → Filled (λ k. verdict_number (verdict_of T S E k)) 256 Z → Judged store n Z
        judged {E} {Z} effects verdicts =
            record {
              entry = verdict-at tables S auth R order below settled.in_order E law Z
                  (record { entry = λ k h. verdicts.entry k (omega (arith, h, settled.levelled.loaded.at_most)) });
            }
          where
            law : Effects (on_line store n) G M (ranked R order 256) E
            law =
                subst (λ (x : List ℕ). (on : ℕ → ℕ → Bool) (rank : ℕ → ℕ) → Graded on rank Q G x → ByRank rank x → Effects on G M x E) with-rank effects
                (on_line store n) (λ k. get_or R k 0)
                (graded tables S auth R order below settled.in_order)
                (by_rank_lem R order key ascends 256)

-- Laws over the words of specs/VoidLaws.
-- Void and effective: the sentence that defines them, as conditions on any test; the test `effective` meets them, and nothing
-- else does.
use Prim.Native.Nat.{ℕ, zero, suc, ◌<◌}
use Rattle.std.proofs.Common.{arith, ap, ◌∙◌}
use Rattle.std.specs.Prelude.{◌≡◌, Bool, true, false, not, ◌&&◌, length}
use Rattle.std.proofs.Math.Path.{refl, sym}
use mathlib.Core.List.Memᴰ
use mathlib.Core.List.{List, Memᴰ}
use Rattle.std.proofs.lemmas.Bool.{not-true}
use Rattle.lists.specs.Cases.{by_bool, clash, bool_eq, and→, and←}
use Rattle.lists.specs.Tests.{any_of, member_of}
use Rattle.lists.proofs.Tests.{any→, any←, any_cong, member→, member←}
use Rattle.lists.proofs.Sorting.{sort_mem, mem_sort}
use Rattle.event.specs.declared.Body.{Body}
use Rattle.event.specs.declared.Body.TheVariants.{Create as create, Grant as grant, Revoke as revoke, Join as join, Unplug as unplug}
use Rattle.model.specs.Events.{Id, Event, creates, revokes, is_create, is_revoke}
use Rattle.model.specs.Heights.{View, view, settled, ancestor}
use Rattle.model.specs.Verdicts.{line, sound, strikes, effective_in, effective, void}
use Rattle.model.specs.SetLaws.{DistinctIds}
use Rattle.model.proofs.SetLaws.{find←}
use Rattle.model.proofs.AncestryLaws.{steady, ancestor-settled}
use Rattle.model.proofs.LineLaws.{line-creator, on_line_lem}
use Rattle.model.proofs.SoundLaws.{sound→, sound-settled, sound-creator, presents}
use Rattle.model.specs.VoidLaws.{Struck, EffectiveBy, Strike}

-- ── one step ────────────────────────────────────────────────────────────────────────────────────────────────────────────

strikes→ : (v : View) (r : Event) (i : Id) → strikes v r i ≡ true → Strike v r i
unfolding strikes
strikes→ v r i t =
    let all = and→ (is_revoke r && member_of r.target (line v i)) (not (ancestor v r.ident i)) t in
    let two = and→ (is_revoke r) (member_of r.target (line v i)) all.0 in
    record {
      is_revoke_lem = two.0;
      target_on_line = member→ r.target (line v i) two.1;
      not-ancestor = not-true (ancestor v r.ident i) all.1;
    }

strikes← : (v : View) (r : Event) (i : Id) → Strike v r i → strikes v r i ≡ true
unfolding strikes
strikes← v r i c = rw (c.is_revoke_lem, member← r.target (line v i) c.target_on_line, c.not-ancestor)

no_creator : (b : Body) → revokes b ≡ true → creates b ≡ false
no_creator create t = clash false t refl
no_creator (grant g) t = refl
no_creator revoke t = refl
no_creator (join c) t = refl
no_creator (unplug a) t = refl

module _ (s : List Event) (d : DistinctIds s) where
  -- a sound revoke that strikes an event has a shorter line
  pub strike_shorter : (r : Event) (i : Id) → Memᴰ r s → sound (view s) r.ident ≡ true → settled (view s) i ≡ true
      → Strike (view s) r i → length (line (view s) r.ident) < length (line (view s) i)
  strike_shorter r i m t st c =
      let found = find← s d r m in
      let nc = no_creator r.body c.is_revoke_lem in
      let p = presents s r.ident r found nc t in
      let target = (sound→ s r.ident r found nc t).target_suits_lem c.is_revoke_lem in
      let ts = ancestor-settled s r.ident r.target target.target_ancestor in
      let above = on_line_lem s r.target r.presented ts target.presents_above in
      let below = on_line_lem s i r.target st c.target_on_line in
      let len = ap length p.line_is in
      omega (arith, len, above.shorter, below.shorter)

  -- ── any number of steps ─────────────────────────────────────────────────────────────────────────────────────────────────

  abbrev strikers : (Id → Bool) → Id → Bool
  strikers effective i = any_of (λ r. strikes (view s) r i && effective r.ident) (view s).by_id

  in_step : (k : ℕ) (i : Id) → effective_in (view s) (suc k) i ≡ (sound (view s) i && not (strikers (effective_in (view s) k) i))
  unfolding effective_in
  in_step k i = refl

  in_unsound : (k : ℕ) (i : Id) → sound (view s) i ≡ false → effective_in (view s) k i ≡ false
  unfolding effective_in
  in_unsound zero i f = refl
  in_unsound (suc k) i f = rw f

  -- it asks the other ids only for sound revokes with a shorter line
  strikers_cong : (a b : Id → Bool) (i : Id) → sound (view s) i ≡ true
      → ((j : Id) → sound (view s) j ≡ false → a j ≡ b j)
      → ((j : Id) → sound (view s) j ≡ true → length (line (view s) j) < length (line (view s) i) → a j ≡ b j)
      → strikers a i ≡ strikers b i
  strikers_cong a b i t off on =
      any_cong _ _ (view s).by_id (λ r n. by_bool (strikes (view s) r i) (λ y. rw y (same r n y)) (λ f. rw f))
    where
      same : (r : Event) → Memᴰ r (view s).by_id → strikes (view s) r i ≡ true → a r.ident ≡ b r.ident
      same r n y =
          let m = sort_mem (λ e. e.ident) s r n in
          by_bool (sound (view s) r.ident)
          (λ u. on r.ident u (strike_shorter r i m u (sound-settled s i t) (strikes→ (view s) r i y)))
          (λ f. off r.ident f)

  enough : (k : ℕ) (i : Id) → length (line (view s) i) < k → effective_in (view s) (suc k) i ≡ effective_in (view s) k i
  enough zero i l = let z : ⊥ = omega arith in absurd z
  enough (suc k) i l =
      by_bool (sound (view s) i) (sounds (λ j h. enough k j h))
      (λ f. in_unsound (suc (suc k)) i f ∙ sym (in_unsound (suc k) i f))
    where
      sounds : ((j : Id) → length (line (view s) j) < k → effective_in (view s) (suc k) j ≡ effective_in (view s) k j)
          → sound (view s) i ≡ true → effective_in (view s) (suc (suc k)) i ≡ effective_in (view s) (suc k) i
      sounds below t =
          let same =
          strikers_cong (effective_in (view s) (suc k)) (effective_in (view s) k) i t
          (λ j f. in_unsound (suc k) j f ∙ sym (in_unsound k j f))
          (λ j u h. below j (omega arith)) in
          in_step (suc k) i ∙ ap (λ (x : Bool). sound (view s) i && not x) same ∙ sym (in_step k i)

  steps : (i : Id) (k : ℕ) → length (line (view s) i) < k → effective (view s) i ≡ effective_in (view s) k i
  unfolding effective
  steps i k l = sym (steady (λ (j : ℕ). effective_in (view s) j i) (suc (length (line (view s) i))) (λ j g. enough j i g) k l)

  -- ── the laws ──────────────────────────────────────────────────────────────────────────────────────────────────────────

  effective_unsound : (i : Id) → sound (view s) i ≡ false → effective (view s) i ≡ false
  unfolding effective
  effective_unsound i f = in_unsound (suc (length (line (view s) i))) i f

  pub effective-sound : (i : Id) → effective (view s) i ≡ true → sound (view s) i ≡ true
  effective-sound i t = by_bool (sound (view s) i) (λ u. u) (λ f. clash (effective (view s) i) t (effective_unsound i f))

  -- sound, and struck by no effective revoke
  effective_law : (i : Id) → effective (view s) i ≡ (sound (view s) i && not (strikers (effective (view s)) i))
  effective_law i = steps i (suc n) (omega arith) ∙ in_step n i ∙ by_bool (sound (view s) i) sounds (λ f. rw f)
    where
      n : ℕ
      n = length (line (view s) i)

      off : (j : Id) → sound (view s) j ≡ false → effective_in (view s) n j ≡ effective (view s) j
      off j f = in_unsound n j f ∙ sym (effective_unsound j f)

      sounds : sound (view s) i ≡ true
          → (sound (view s) i && not (strikers (effective_in (view s) n) i)) ≡ (sound (view s) i && not (strikers (effective (view s)) i))
      sounds t =
          ap (λ (x : Bool). sound (view s) i && not x)
          (strikers_cong (effective_in (view s) n) (effective (view s)) i t off (λ j u h. sym (steps j n h)))

  strikers→ : (a : Id → Bool) (i : Id) → strikers a i ≡ true → Struck s a i
  strikers→ a i t =
      let w = any→ (λ r. strikes (view s) r i && a r.ident) (view s).by_id t in
      let both = and→ (strikes (view s) w.0 i) (a w.0.ident) w.2 in
      let c = strikes→ (view s) w.0 i both.0 in
      record {
        revoker = w.0;
        held = sort_mem (λ e. e.ident) s w.0 w.1;
        is_revoke_lem = c.is_revoke_lem;
        is_effective = both.1;
        target_on_line = c.target_on_line;
        not-ancestor = c.not-ancestor;
      }

  struck_strike : (a : Id → Bool) (i : Id) (x : Struck s a i) → Strike (view s) x.revoker i
  struck_strike a i x = record { is_revoke_lem = x.is_revoke_lem; target_on_line = x.target_on_line; not-ancestor = x.not-ancestor }

  strikers← : (a : Id → Bool) (i : Id) → Struck s a i → strikers a i ≡ true
  strikers← a i x =
      any← (λ r. strikes (view s) r i && a r.ident) (view s).by_id x.revoker
      (mem_sort (λ e. e.ident) s x.revoker x.held)
      (and← _ _ (strikes← (view s) x.revoker i (struck_strike a i x)) x.is_effective)

  struck_off : (i : Id) → Struck s (effective (view s)) i → effective (view s) i ≡ false
  struck_off i x = effective_law i ∙ rw (strikers← (effective (view s)) i x) (by_bool (sound (view s) i) (λ t. rw t) (λ f. rw f))

  -- "A sound event is void exactly when some effective revoke has its target on the event's line and does not have the event as
  -- an ancestor."
  pub void→ : (i : Id) → void (view s) i ≡ true → Struck s (effective (view s)) i
  unfolding void
  void→ i t =
      let both = and→ (sound (view s) i) (not (effective (view s) i)) t in
      strikers→ (effective (view s)) i
      (by_bool (strikers (effective (view s)) i) (λ y. y)
      (λ f. clash (effective (view s) i) (effective_law i ∙ rw (both.0, f)) (not-true (effective (view s) i) both.1)))

  pub void← : (i : Id) → sound (view s) i ≡ true → Struck s (effective (view s)) i → void (view s) i ≡ true
  unfolding void
  void← i t x = rw (t, struck_off i x)

  -- the effective events meet the sentence
  pub effective_holds : EffectiveBy s (effective (view s))
  effective_holds =
      record {
        only-sound = effective-sound;
        not_struck = λ i t x. clash (effective (view s) i) t (struck_off i x);
        all_others = λ i t unstruck. effective_law i ∙ rw (t, free i unstruck);
      }
    where
      free : (i : Id) → (Struck s (effective (view s)) i → ⊥) → strikers (effective (view s)) i ≡ false
      free i unstruck =
          by_bool (strikers (effective (view s)) i) (λ y. absurd (unstruck (strikers→ (effective (view s)) i y))) (λ f. f)

  -- struck by one test, then by another that agrees with it on what has a shorter line
  struck_cong : (a b : Id → Bool) (i : Id) → ((j : Id) → a j ≡ true → sound (view s) j ≡ true) → sound (view s) i ≡ true
      → ((j : Id) → length (line (view s) j) < length (line (view s) i) → a j ≡ b j) → Struck s a i → Struck s b i
  struck_cong a b i only t same x =
      let r = x.revoker in
      let h = strike_shorter r i x.held (only r.ident x.is_effective) (sound-settled s i t) (struck_strike a i x) in
      record {
        revoker = r;
        held = x.held;
        is_revoke_lem = x.is_revoke_lem;
        is_effective = sym (same r.ident h) ∙ x.is_effective;
        target_on_line = x.target_on_line;
        not-ancestor = x.not-ancestor;
      }

  -- of two tests that meet the sentence and agree on what has a shorter line, what the one accepts the other does
  accepts : (a b : Id → Bool) → EffectiveBy s a → EffectiveBy s b → (i : Id)
      → ((j : Id) → length (line (view s) j) < length (line (view s) i) → a j ≡ b j) → a i ≡ true → b i ≡ true
  accepts a b la lb i same t =
      let u = la.only-sound i t in
      lb.all_others i u (λ x. la.not_struck i t (struck_cong b a i lb.only-sound u (λ j h. sym (same j h)) x))

  -- and are the only test that does
  pub effective_unique : (other : Id → Bool) → EffectiveBy s other → (i : Id) → other i ≡ effective (view s) i
  effective_unique other law i = go (suc (length (line (view s) i))) i (omega arith)
    where
      go : (k : ℕ) (j : Id) → length (line (view s) j) < k → other j ≡ effective (view s) j
      go zero j l = let z : ⊥ = omega arith in absurd z
      go (suc k) j l =
          bool_eq (other j) (effective (view s) j)
          (accepts other (effective (view s)) law effective_holds j (λ i h. go k i (omega arith)))
          (accepts (effective (view s)) other effective_holds law j (λ i h. sym (go k i (omega arith))))

  -- "The creator is effective"
  pub creator-effective : (e : Event) → Memᴰ e s → is_create e ≡ true → effective (view s) e.ident ≡ true
  creator-effective e m c =
      let found = find← s d e m in
      effective_holds.all_others e.ident (sound-creator s e.ident e found c)
      (λ x. Memᴰ.not-nil (rw (line-creator s e.ident e found c) at x.target_on_line))

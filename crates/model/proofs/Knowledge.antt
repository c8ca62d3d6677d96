-- Laws over the words of specs/Knowledge.
-- What is settled in a set stays in every larger one: its height, ancestors, line and soundness. And every grant on an effective
-- event's line is effective.
use Rattle.std.specs.Prelude.{ℕ, ◌≡◌, Bool, true, false, ◌||◌}
use Rattle.std.proofs.Common.{sym, ap, ◌∙◌}
use Rattle.std.proofs.Math.Option.{some}
use mathlib.Core.List.{List, ◌∷◌, Memᴰ}
use Rattle.lists.specs.Cases.{by_bool, clash}
use Rattle.lists.specs.Bytes.{same_bytes}
use Rattle.lists.specs.Tests.{Within}
use Rattle.lists.proofs.Tests.{any_cong}
use Rattle.model.specs.Events.{Id, Event, is_create}
use Rattle.model.specs.Heights.{find_in, view, height, settled, ancestor}
use Rattle.model.specs.Verdicts.{line, presented_grant, target_suits, sound_from, sound, effective}
use Rattle.model.specs.SetLaws.{DistinctIds}
use Rattle.model.proofs.SetLaws.{find→, find←}
use Rattle.model.specs.HeightLaws.{OfParents}
use Rattle.model.proofs.HeightLaws.{height→, height←, height-creator, height_found, settled→, settled←, settled_ind}
use Rattle.model.proofs.AncestryLaws.{ancestor-creator, ancestor_law, ancestor-settled, ancestor_trans, OfAncestors, past_ind}
use Rattle.model.proofs.LineLaws.{line_presents, line_ends, OnLine, on_line_lem}
use Rattle.model.proofs.SoundLaws.{sound_law, sound-settled, sound-ancestor, from_cong}
use Rattle.model.specs.VoidLaws.{Struck}
use Rattle.model.proofs.VoidLaws.{effective-sound, effective_holds}
use Rattle.model.specs.Knowledge.{Kept}

-- s is the smaller set, t the larger
module _ (s t : List Event) (c : DistinctIds t) (h : Within s t) where
  found_kept : (i : Id) (e : Event) → find_in s i ≡ some e → find_in t i ≡ some e
  found_kept i e m = let w = find→ s i e m in ap (find_in t) (sym w.1) ∙ find← t c e (h e w.0)

  height-kept : (i : Id) (a : ℕ) → height (view s) i ≡ some a → height (view t) i ≡ some a
  height-kept i a q = settled_ind s Stays step i (settled← (view s) i a q) a q
    where
      Stays : Id → Type 0
      Stays j = (b : ℕ) → height (view s) j ≡ some b → height (view t) j ≡ some b

      step : (j : Id) (e : Event) → find_in s j ≡ some e → settled (view s) j ≡ true → OfParents Stays e → Stays j
      step j e m st up b r = by_bool (is_create e) creator other
        where
          creator : is_create e ≡ true → height (view t) j ≡ some b
          creator y = height-creator t j e (found_kept j e m) y ∙ sym (height-creator s j e m y) ∙ r

          other : is_create e ≡ false → height (view t) j ≡ some b
          other f =
              let o = height→ s j e b m f r in
              let w = o.attained in
              height← t j e b (found_kept j e m) f (record {
                each = λ p n. let u = o.each p n in (u.0, up f p n u.0 u.1, u.2);
                attained = (w.0, w.1, w.2, up f w.0 w.1 w.2 w.3, w.4);
              })

  settled-kept : (i : Id) → settled (view s) i ≡ true → settled (view t) i ≡ true
  settled-kept i y = let w = settled→ (view s) i y in settled← (view t) i w.0 (height-kept i w.0 w.1)

  ancestor-kept : (i a : Id) → settled (view s) i ≡ true → ancestor (view t) i a ≡ ancestor (view s) i a
  ancestor-kept i a = settled_ind s Stays step i
    where
      Stays : Id → Type 0
      Stays j = ancestor (view t) j a ≡ ancestor (view s) j a

      step : (j : Id) (e : Event) → find_in s j ≡ some e → settled (view s) j ≡ true → OfParents Stays e → Stays j
      step j e m st up =
          by_bool (is_create e)
          (λ y. ancestor-creator t j a e (found_kept j e m) y ∙ sym (ancestor-creator s j a e m y))
          (λ f.
          ancestor_law t j a e (found_kept j e m) (settled-kept j st) f
          ∙ any_cong _ _ e.parents (λ p n. ap (λ (x : Bool). same_bytes p a || x) (up f p n))
          ∙ sym (ancestor_law s j a e m st f))

  line_kept : (i : Id) → settled (view s) i ≡ true → line (view t) i ≡ line (view s) i
  line_kept = past_ind s Stays step
    where
      Stays : Id → Type 0
      Stays j = line (view t) j ≡ line (view s) j

      step : (j : Id) (e : Event) → find_in s j ≡ some e → settled (view s) j ≡ true → OfAncestors s Stays j → Stays j
      step j e m st past =
          let same = ancestor-kept j e.presented st in
          let m' = found_kept j e m in
          by_bool (ancestor (view s) j e.presented)
          (λ y.
          line_presents t j e m' (settled-kept j st) (same ∙ y)
          ∙ ap (λ (l : List Id). e.presented ∷ l) (past e.presented y) ∙ sym (line_presents s j e m st y))
          (λ f. line_ends t j e m' (same ∙ f) ∙ sym (line_ends s j e m f))

  -- what is found by the id of an ancestor
  find_kept : (i a : Id) → ancestor (view s) i a ≡ true → find_in t a ≡ find_in s a
  find_kept i a y =
      let w = settled→ (view s) a (ancestor-settled s i a y) in
      let v = height_found s a w.0 w.1 in
      found_kept a v.0 v.1 ∙ sym v.1

  given-kept : (e : Event) → settled (view s) e.ident ≡ true → presented_grant (view t) e ≡ presented_grant (view s) e
  unfolding presented_grant
  given-kept e st =
      rw (ancestor-kept e.ident e.presented st)
      (by_bool (ancestor (view s) e.ident e.presented) (λ y. rw (y, find_kept e.ident e.presented y)) (λ f. rw f))

  target_kept : (e : Event) → settled (view s) e.ident ≡ true → target_suits (view t) e ≡ target_suits (view s) e
  unfolding target_suits
  target_kept e st =
      rw (ancestor-kept e.ident e.target st)
      (by_bool (ancestor (view s) e.ident e.target)
      (λ y. rw (y, find_kept e.ident e.target y, line_kept e.target (ancestor-settled s e.ident e.target y)))
      (λ f. rw f))

  from_kept : (a : Id → Bool) (e : Event) → settled (view s) e.ident ≡ true → sound_from (view t) a e ≡ sound_from (view s) a e
  unfolding sound_from
  from_kept a e st = rw (given-kept e st, target_kept e st)

  sound-kept : (i : Id) → settled (view s) i ≡ true → sound (view t) i ≡ sound (view s) i
  sound-kept = settled_ind s Stays step
    where
      Stays : Id → Type 0
      Stays j = sound (view t) j ≡ sound (view s) j

      step : (j : Id) (e : Event) → find_in s j ≡ some e → settled (view s) j ≡ true → OfParents Stays e → Stays j
      step j e m st up =
          sound_law t j e (found_kept j e m) (settled-kept j st)
          ∙ from_kept (sound (view t)) e (ap (settled (view s)) (find→ s j e m).1 ∙ st)
          ∙ from_cong (view s) (sound (view t)) (sound (view s)) e (λ f p n. up f p n)
          ∙ sym (sound_law s j e m st)

-- an event settled in a set has the same height, ancestors, line and soundness in every larger set without shared ids
pub knowledge_kept : (s t : List Event) → DistinctIds t → Within s t → (i : Id) → settled (view s) i ≡ true → Kept s t i
knowledge_kept s t c h i y =
    let w = settled→ (view s) i y in
    record {
      same_height = height-kept s t c h i w.0 w.1 ∙ sym w.1;
      same_ancestors = λ a. ancestor-kept s t c h i a y;
      same_line = line_kept s t c h i y;
      same_soundness = sound-kept s t c h i y;
    }

-- every grant on an effective event's line is effective
pub line-effective : (s : List Event) → DistinctIds s → (i g : Id) → effective (view s) i ≡ true
    → Memᴰ g (line (view s) i) → effective (view s) g ≡ true
line-effective s d i g y n = (effective_holds s d).all_others g (sound-ancestor s i g t o.is_ancestor) unstruck
  where
    t : sound (view s) i ≡ true
    t = effective-sound s d i y

    o : OnLine s i g
    o = on_line_lem s i g (sound-settled s i t) n

    reaches : (x : Struck s (effective (view s)) g) → ancestor (view s) x.revoker.ident i ≡ true
        → ancestor (view s) x.revoker.ident i ≡ false
    reaches x k =
        let r = x.revoker.ident in
        clash (ancestor (view s) r g) (ancestor_trans s r i g k o.is_ancestor) x.not-ancestor

    -- a revoke that strikes g strikes what lies below it
    unstruck : Struck s (effective (view s)) g → ⊥
    unstruck x =
        (effective_holds s d).not_struck i y
        (record {
          revoker = x.revoker;
          held = x.held;
          is_revoke_lem = x.is_revoke_lem;
          is_effective = x.is_effective;
          target_on_line = o.part_of x.revoker.target x.target_on_line;
          not-ancestor = by_bool (ancestor (view s) x.revoker.ident i) (reaches x) (λ f. f);
        })

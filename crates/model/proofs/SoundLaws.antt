-- Laws over the words of specs/SoundLaws.
-- Soundness: exactly the five conditions; and the lines of sound events, which lead to the creator.
use Rattle.std.specs.Prelude.{ℕ, zero, suc, ◌<◌, ◌≡◌, Bool, not, ◌&&◌, ◌||◌, eqb}
use Rattle.std.proofs.Common.{arith, sym, ap, ◌∙◌, ⊎_elim}
use Rattle.std.proofs.Math.Path.{refl}
use Rattle.std.proofs.Math.Bool.{true, false}
use Rattle.std.proofs.Math.Option.{none, some}
use mathlib.Core.List.{List, ◌∷◌, Memᴰ}
use borrow.Author.Tests.{eqb-true, eq-eqb, not-true}
use Rattle.lists.specs.Cases.{maybe, by_bool, by_option, clash, clash_option, and→, or→, or←l, or←r}
use Rattle.lists.specs.Tests.{all_of, member_of}
use Rattle.lists.proofs.Tests.{all→, all←, all_cong, member→, member←}
use Rattle.event.specs.declared.Grant.{Grant}
use Rattle.event.specs.declared.Body.{Body}
use Rattle.event.specs.declared.Body.TheVariants.{Create as create, Grant as grant, Revoke as revoke, Join as join, Unplug as unplug}
use Rattle.model.specs.Events.{Id, Event, is_create, is_grant, is_revoke}
use Rattle.model.specs.Heights.{find_in, View, view, height, settled, ancestor}
use Rattle.model.specs.Verdicts.{grant_of, all_rights, has, within, covers, line, parents_sound, presented_grant, to_author, right_for, has_right, covers_body, target_suits, permits, sound_from, sound_in, sound}
use Rattle.model.specs.SetLaws.{DistinctIds}
use Rattle.model.proofs.SetLaws.{find→, find←}
use Rattle.model.specs.HeightLaws.{OfParents}
use Rattle.model.proofs.HeightLaws.{height→, height-creator, settled→, settled←, settled_ind}
use Rattle.model.proofs.AncestryLaws.{steady, OfAncestors, past_ind, first_step, descendant_settled}
use Rattle.model.proofs.LineLaws.{line_presents, line-creator}
use Rattle.model.specs.SoundLaws.{TargetBy, SoundBy, LinesBy}

-- ── each test and its condition ─────────────────────────────────────────────────────────────────────────────────────────

covers→ : (g f : Grant) → covers g f ≡ true → (q : ℕ) → Memᴰ q all_rights → has f.rights q ≡ true
    → has g.rights q ≡ true
unfolding covers within
covers→ g f t q n h =
    ⊎_elim
    (λ k. clash (has f.rights q) h (not-true (has f.rights q) k))
    (λ k. k)
    (or→ (not (has f.rights q)) (has g.rights q) (all→ (λ x. not (has f.rights x) || has g.rights x) all_rights t q n))

covers← : (g f : Grant) → ((q : ℕ) → Memᴰ q all_rights → has f.rights q ≡ true → has g.rights q ≡ true)
    → covers g f ≡ true
unfolding covers within
covers← g f h =
    all← (λ x. not (has f.rights x) || has g.rights x) all_rights
    (λ q n. by_bool (has f.rights q)
    (λ t. or←r (not (has f.rights q)) (has g.rights q) (h q n t))
    (λ k. or←l (not (has f.rights q)) (has g.rights q) (ap not k)))

abbrev Within : Grant → Body → Type 0
Within g b = (f : Grant) (q : ℕ) → b ≡ grant f → Memᴰ q all_rights → has f.rights q ≡ true → has g.rights q ≡ true

body→ : (g : Grant) (b : Body) → covers_body g b ≡ true → Within g b
unfolding covers_body
body→ g b t f q p n h = covers→ g f (ap (covers_body g) (sym p) ∙ t) q n h

body← : (g : Grant) (b : Body) → Within g b → covers_body g b ≡ true
unfolding covers_body
body← g create h = refl
body← g (grant f) h = covers← g f (λ q n k. h f q refl n k)
body← g revoke h = refl
body← g (join c) h = refl
body← g (unplug a) h = refl

module _ (v : View) (e : Event) where
  -- P and what it gives
  abbrev Given : Grant → Type 0
  Given g = (p : Event) × (ancestor v e.ident e.presented ≡ true) × (v.find e.presented ≡ some p) × (grant_of p ≡ some g)

  given→ : (g : Grant) → presented_grant v e ≡ some g → Given g
  unfolding presented_grant
  given→ g q =
      by_bool (ancestor v e.ident e.presented)
      (λ t. by_option (v.find e.presented) (λ n. clash_option none g refl (rw (t, n) at q)) (λ p m. (p, t, m, rw (t, m) at q)))
      (λ f. clash_option none g refl (rw f at q))

  given← : (g : Grant) → Given g → presented_grant v e ≡ some g
  unfolding presented_grant
  given← g w = rw (w.1, w.2, w.3)

  target→ : target_suits v e ≡ true → is_revoke e ≡ true → TargetBy v e
  unfolding target_suits
  target→ t r =
      let a = ancestor v e.ident e.target in
      let b = maybe false is_grant (v.find e.target) in
      let c = member_of e.presented (line v e.target) in
      let all = and→ (a && b) c (rw r at t) in
      let two = and→ a b all.0 in
      by_option (v.find e.target)
      (λ n. clash false (rw n at two.1) refl)
      (λ x m. record {
        target_ancestor = two.0;
        target_event = x;
        target_found = m;
        target_grants = rw m at two.1;
        presents_above = member→ e.presented (line v e.target) all.1;
      })

  target← : (is_revoke e ≡ true → TargetBy v e) → target_suits v e ≡ true
  unfolding target_suits
  target← h = by_bool (is_revoke e) revoking (λ f. rw f)
    where
      revoking : is_revoke e ≡ true → target_suits v e ≡ true
      revoking r =
          let w = h r in
          let on = member← e.presented (line v e.target) w.presents_above in
          rw (r, w.target_ancestor, w.target_found, w.target_grants, on)

  from→ : is_create e ≡ false → sound_from v (sound v) e ≡ true → SoundBy v e
  unfolding sound_from parents_sound permits to_author has_right
  from→ f t =
      let three = all_of (sound v) e.parents && maybe false (permits e) (presented_grant v e) in
      let all = and→ three (target_suits v e) (rw f at t) in
      let two = and→ (all_of (sound v) e.parents) (maybe false (permits e) (presented_grant v e)) all.0 in
      by_option (presented_grant v e)
      (λ n. clash false (rw n at two.1) refl)
      (λ g q. made g q two.0 (ap (maybe false (permits e)) (sym q) ∙ two.1) all.1)
    where
      made : (g : Grant) → presented_grant v e ≡ some g → all_of (sound v) e.parents ≡ true
          → permits e g ≡ true → target_suits v e ≡ true → SoundBy v e
      made g q ps k ts =
          let p = given→ g q in
          let all = and→ (eqb g.subject e.author && has g.rights (right_for e.body)) (covers_body g e.body) k in
          let two = and→ (eqb g.subject e.author) (has g.rights (right_for e.body)) all.0 in
          record {
            parents_sound_lem = all→ (sound v) e.parents ps;
            presents_ancestor = p.1;
            giver = p.0;
            giver_found = p.2;
            given = g;
            giver_gives = p.3;
            to_author_lem = eqb-true g.subject e.author two.0;
            has_right_lem = two.1;
            rights_within = body→ g e.body all.1;
            target_suits_lem = target→ ts;
          }

  from← : is_create e ≡ false → SoundBy v e → sound_from v (sound v) e ≡ true
  unfolding sound_from parents_sound permits to_author has_right
  from← f c =
      let p = given← c.given (c.giver, c.presents_ancestor, c.giver_found, c.giver_gives) in
      let a = eq-eqb c.given.subject e.author c.to_author_lem in
      rw (f, p, all← (sound v) e.parents c.parents_sound_lem, a, c.has_right_lem, body← c.given e.body c.rights_within)
      (target← c.target_suits_lem)

-- ── the laws ────────────────────────────────────────────────────────────────────────────────────────────────────────────

-- soundness asks the other ids only for the parents
pub from_cong : (v : View) (a b : Id → Bool) (e : Event)
    → (is_create e ≡ false → (p : Id) → Memᴰ p e.parents → a p ≡ b p) → sound_from v a e ≡ sound_from v b e
unfolding sound_from parents_sound
from_cong v a b e h = by_bool (is_create e) (λ t. rw t) (λ f. rw (f, all_cong a b e.parents (h f)))

module _ (s : List Event) where
  in_step : (k : ℕ) (i : Id) (e : Event) → find_in s i ≡ some e
      → sound_in (view s) (suc k) i ≡ sound_from (view s) (sound_in (view s) k) e
  unfolding sound_in
  in_step k i e m = rw m

  -- one step more than the height is enough
  abbrev Enough : Id → Type 0
  Enough i = (k h : ℕ) → height (view s) i ≡ some h → h < k → sound_in (view s) (suc k) i ≡ sound_in (view s) k i

  enough : (i : Id) → settled (view s) i ≡ true → Enough i
  enough = settled_ind s Enough step
    where
      step : (i : Id) (e : Event) → find_in s i ≡ some e → settled (view s) i ≡ true → OfParents Enough e → Enough i
      step i e m t up zero h q l = let z : ⊥ = omega arith in absurd z
      step i e m t up (suc k) h q l =
          in_step (suc k) i e m
          ∙ from_cong (view s) (sound_in (view s) (suc k)) (sound_in (view s) k) e parent
          ∙ sym (in_step k i e m)
        where
          parent : is_create e ≡ false → (p : Id) → Memᴰ p e.parents → sound_in (view s) (suc k) p ≡ sound_in (view s) k p
          parent f p n = let w = (height→ s i e h m f q).each p n in up f p n k w.0 w.1 (omega (arith, w.2))

  steps : (i : Id) (h k : ℕ) → height (view s) i ≡ some h → h < k → sound (view s) i ≡ sound_in (view s) k i
  unfolding sound
  steps i h k q l =
      rw q (sym (steady (λ (j : ℕ). sound_in (view s) j i) (suc h) (λ j g. enough i (settled← (view s) i h q) j h q g) k l))

  pub sound-settled : (i : Id) → sound (view s) i ≡ true → settled (view s) i ≡ true
  unfolding sound
  sound-settled i t = by_option (height (view s) i) (λ n. clash false (rw n at t) refl) (λ h q. rw q)

  pub sound_law : (i : Id) (e : Event) → find_in s i ≡ some e → settled (view s) i ≡ true
      → sound (view s) i ≡ sound_from (view s) (sound (view s)) e
  sound_law i e m t =
      steps i w.0 (suc w.0) w.1 (omega arith)
      ∙ in_step w.0 i e m
      ∙ from_cong (view s) (sound_in (view s) w.0) (sound (view s)) e parent
    where
      w : (h : ℕ) × (height (view s) i ≡ some h)
      w = settled→ (view s) i t

      parent : is_create e ≡ false → (p : Id) → Memᴰ p e.parents → sound_in (view s) w.0 p ≡ sound (view s) p
      parent f p n = let u = (height→ s i e w.0 m f w.1).each p n in sym (steps p u.0 w.0 u.1 u.2)

  -- the creator is sound
  pub sound-creator : (i : Id) (e : Event) → find_in s i ≡ some e → is_create e ≡ true → sound (view s) i ≡ true
  unfolding sound_from
  sound-creator i e m t = sound_law i e m (settled← (view s) i 0 (height-creator s i e m t)) ∙ rw t

  -- "Any other settled event is sound when": by the five conditions, and only so
  pub sound→ : (i : Id) (e : Event) → find_in s i ≡ some e → is_create e ≡ false → sound (view s) i ≡ true → SoundBy (view s) e
  sound→ i e m f t = from→ (view s) e f (sym (sound_law i e m (sound-settled i t)) ∙ t)

  pub sound← : (i : Id) (e : Event) → find_in s i ≡ some e → is_create e ≡ false → settled (view s) i ≡ true
      → SoundBy (view s) e → sound (view s) i ≡ true
  sound← i e m f st c = sound_law i e m st ∙ from← (view s) e f c

  -- the ancestors of a sound event are sound
  pub sound-ancestor : (i a : Id) → sound (view s) i ≡ true → ancestor (view s) i a ≡ true → sound (view s) a ≡ true
  sound-ancestor i a t u = settled_ind s Passes step i (descendant_settled s i a u) t u
    where
      Passes : Id → Type 0
      Passes j = sound (view s) j ≡ true → ancestor (view s) j a ≡ true → sound (view s) a ≡ true

      step : (j : Id) (e : Event) → find_in s j ≡ some e → settled (view s) j ≡ true → OfParents Passes e → Passes j
      step j e m st up y z =
          let v = first_step s j a e m z in
          let p = (sound→ j e m v.not-creator y).parents_sound_lem v.parent v.is_parent in
          ⊎_elim
          (λ r. ap (sound (view s)) (sym r) ∙ p)
          (λ r. up v.not-creator v.parent v.is_parent p r)
          v.leads

  -- ── the lines of sound events ─────────────────────────────────────────────────────────────────────────────────────────

  -- what a sound event presents
  pub record Presents (i : Id) (e : Event) : Type 0 where
    pub is_ancestor : ancestor (view s) i e.presented ≡ true
    pub is_sound : sound (view s) e.presented ≡ true
    pub line_is : line (view s) i ≡ (e.presented ∷ line (view s) e.presented)

  pub presents : (i : Id) (e : Event) → find_in s i ≡ some e → is_create e ≡ false → sound (view s) i ≡ true → Presents i e
  presents i e m f t =
      record {
        is_ancestor = a;
        is_sound = sound-ancestor i e.presented t a;
        line_is = line_presents s i e m (sound-settled i t) a;
      }
    where
      a : ancestor (view s) i e.presented ≡ true
      a = ap (λ (x : Id). ancestor (view s) x e.presented) (sym (find→ s i e m).1) ∙ (sound→ i e m f t).presents_ancestor

module _ (s : List Event) where
  -- the lines meet the sentence
  pub lines_hold : DistinctIds s → LinesBy s (line (view s))
  lines_hold d =
      record {
        of_creator = λ e m c. line-creator s e.ident e (find← s d e m) c;
        of_others = λ e m t f. (presents s e.ident e (find← s d e m) f t).line_is;
      }

  -- and are, for sound events, the only function that does
  pub line_unique : (other : Id → List Id) → LinesBy s other → (i : Id) → sound (view s) i ≡ true → other i ≡ line (view s) i
  line_unique other law i t = past_ind s Same step i (sound-settled s i t) t
    where
      Same : Id → Type 0
      Same j = sound (view s) j ≡ true → other j ≡ line (view s) j

      step : (j : Id) (e : Event) → find_in s j ≡ some e → settled (view s) j ≡ true
          → OfAncestors s Same j → Same j
      step j e m st past y =
          let w = find→ s j e m in
          ap other (sym w.1) ∙ by_bool (is_create e)
          (λ c. law.of_creator e w.0 c ∙ sym (line-creator s j e m c))
          (λ f.
          let p = presents s j e m f y in
          law.of_others e w.0 (ap (sound (view s)) w.1 ∙ y) f
          ∙ ap (λ (l : List Id). e.presented ∷ l) (past e.presented p.is_ancestor p.is_sound) ∙ sym p.line_is)

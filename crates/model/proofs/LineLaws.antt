-- Lines: what is presented, then its line; each member is an ancestor, with a shorter line.
use Prim.Native.Nat.{ℕ, zero, suc, ◌≤◌, ◌<◌}
use Rattle.std.proofs.Common.{arith, sym, ap, ◌∙◌, ⊎_elim}
use Rattle.std.specs.Prelude.{◌≡◌, true, false, length}
use Rattle.std.proofs.Math.Path.{refl}
use Rattle.std.proofs.Math.Option.{some}
use mathlib.Core.List.Memᴰ
use mathlib.Core.List.{List, [], ◌∷◌, Memᴰ}
use Rattle.lists.specs.Cases.{by_bool, by_option}
use Rattle.model.specs.Events.{Id, Event, is_create}
use Rattle.model.specs.Heights.{find_in, view, height, settled, ancestor}
use Rattle.model.specs.Verdicts.{line_in, line}
use Rattle.model.proofs.HeightLaws.{settled→, settled←}
use Rattle.model.proofs.AncestryLaws.{steady, ancestor-creator, ancestor-height, ancestor_trans, OfAncestors, past_ind}

module _ (s : List Event) where
  in_presents : (k : ℕ) (i : Id) (e : Event) → find_in s i ≡ some e → ancestor (view s) i e.presented ≡ true
      → line_in (view s) (suc k) i ≡ (e.presented ∷ line_in (view s) k e.presented)
  unfolding line_in
  in_presents k i e m t = rw (m, t)

  in_ends : (k : ℕ) (i : Id) (e : Event) → find_in s i ≡ some e → ancestor (view s) i e.presented ≡ false
      → line_in (view s) k i ≡ []
  unfolding line_in
  in_ends zero i e m f = refl
  in_ends (suc k) i e m f = rw (m, f)

  -- as many steps as the height are enough
  abbrev Enough : Id → Type 0
  Enough i = (k h : ℕ) → height (view s) i ≡ some h → h ≤ k → line_in (view s) (suc k) i ≡ line_in (view s) k i

  enough : (i : Id) → settled (view s) i ≡ true → Enough i
  enough =
      past_ind s Enough
      (λ i e m t up k h q l. by_bool (ancestor (view s) i e.presented) (on i e m h q up k l)
      (λ f. in_ends (suc k) i e m f ∙ sym (in_ends k i e m f)))
    where
      on : (i : Id) (e : Event) → find_in s i ≡ some e → (h : ℕ) → height (view s) i ≡ some h
          → OfAncestors s Enough i → (k : ℕ) → h ≤ k → ancestor (view s) i e.presented ≡ true
          → line_in (view s) (suc k) i ≡ line_in (view s) k i
      on i e m h q up zero l t = let w = ancestor-height s i e.presented h q t in let z : ⊥ = omega (arith, w.2) in absurd z
      on i e m h q up (suc k) l t =
          let w = ancestor-height s i e.presented h q t in
          let rest = up e.presented t k w.0 w.1 (omega (arith, w.2)) in
          in_presents (suc k) i e m t ∙ ap (λ (x : List Id). e.presented ∷ x) rest ∙ sym (in_presents k i e m t)

  steps : (i : Id) (h k : ℕ) → height (view s) i ≡ some h → h ≤ k → line (view s) i ≡ line_in (view s) k i
  unfolding line
  steps i h k q l = rw q (sym (steady (λ (j : ℕ). line_in (view s) j i) h (λ j g. enough i (settled← (view s) i h q) j h q g) k l))

  -- the presented id where it is that of an ancestor P, then the line of P
  pub line_presents : (i : Id) (e : Event) → find_in s i ≡ some e → settled (view s) i ≡ true
      → ancestor (view s) i e.presented ≡ true → line (view s) i ≡ (e.presented ∷ line (view s) e.presented)
  line_presents i e m st t =
      let w = settled→ (view s) i st in
      let x = ancestor-height s i e.presented w.0 w.1 t in
      let rest = steps e.presented x.0 w.0 x.1 (omega (arith, x.2)) in
      steps i w.0 (suc w.0) w.1 (omega arith)
      ∙ in_presents w.0 i e m t
      ∙ ap (λ (y : List Id). e.presented ∷ y) (sym rest)

  -- else nothing
  pub line_ends : (i : Id) (e : Event) → find_in s i ≡ some e → ancestor (view s) i e.presented ≡ false → line (view s) i ≡ []
  unfolding line
  line_ends i e m f = by_option (height (view s) i) (λ n. rw n) (λ h q. rw q (in_ends h i e m f))

  pub line-creator : (i : Id) (e : Event) → find_in s i ≡ some e → is_create e ≡ true → line (view s) i ≡ []
  line-creator i e m c = line_ends i e m (ancestor-creator s i e.presented e m c)

  -- induction along the lines of settled events
  pub line_ind : (P : Id → Type 0)
      → ((i : Id) → settled (view s) i ≡ true → line (view s) i ≡ [] → P i)
      → ((i p : Id) → settled (view s) i ≡ true → ancestor (view s) i p ≡ true
      → line (view s) i ≡ (p ∷ line (view s) p) → P p → P i)
      → (i : Id) → settled (view s) i ≡ true → P i
  line_ind P end up =
      past_ind s P
      (λ i e m st past. by_bool (ancestor (view s) i e.presented)
      (λ t. up i e.presented st t (line_presents i e m st t) (past e.presented t))
      (λ f. end i st (line_ends i e m f)))

  -- a member of a line is an ancestor, has a shorter line, and its line is part of it
  pub record OnLine (i x : Id) : Type 0 where
    pub is_ancestor : ancestor (view s) i x ≡ true
    pub shorter : length (line (view s) x) < length (line (view s) i)
    pub part_of : (y : Id) → Memᴰ y (line (view s) x) → Memᴰ y (line (view s) i)

  pub on_line_lem : (i x : Id) → settled (view s) i ≡ true → Memᴰ x (line (view s) i) → OnLine i x
  on_line_lem i x st = line_ind (λ j. Memᴰ x (line (view s) j) → OnLine j x) end up i st
    where
      end : (j : Id) → settled (view s) j ≡ true → line (view s) j ≡ [] → Memᴰ x (line (view s) j) → OnLine j x
      end j t e n = absurd (Memᴰ.not-nil (rw e at n))

      up : (j p : Id) → settled (view s) j ≡ true → ancestor (view s) j p ≡ true → line (view s) j ≡ (p ∷ line (view s) p)
          → (Memᴰ x (line (view s) p) → OnLine p x) → Memᴰ x (line (view s) j) → OnLine j x
      up j p t a e rest n = ⊎_elim here there (Memᴰ.cases_cons (rw e at n))
        where
          len : length (line (view s) j) ≡ suc (length (line (view s) p))
          len = ap length e

          here : x ≡ p → OnLine j x
          here r = rw r (record { is_ancestor = a; shorter = omega (arith, len); part_of = λ y k. rw e (Memᴰ.tail k) })

          there : Memᴰ x (line (view s) p) → OnLine j x
          there k =
              let o = rest k in
              record {
                is_ancestor = ancestor_trans s j p x a o.is_ancestor;
                shorter = omega (arith, len, o.shorter);
                part_of = λ y l. rw e (Memᴰ.tail (o.part_of y l));
              }

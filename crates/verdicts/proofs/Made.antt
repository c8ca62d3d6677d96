-- Tables that `from_fn` makes by a rule of the place.
use Rattle.std.proofs.Common.{arith, ◌≡◌, ◌∙◌, ℕ, zero, suc, ◌+◌, ◌<◌, ◌≤◌, List, get_or, eqb, ap, sym, subst}
use Rattle.std.specs.Array.{IsFromFnResult, IsFromFnResultFrom}
use Rattle.std.specs.Fn.{Called}
use denote.Param.Members.{Mut}
use borrow.Author.Tests.{eqb-true, eqb-false}
use Rattle.lists.specs.Cases.{by_bool}

module _ {F X : Type 0} (g : Mut F (ℕ × Unit {0}) X) (rule : ℕ → X) (f : F)
    (gives : (i : ℕ) (y : X) (q : F) → Called g f (i, tt) y q → (q ≡ f) × (y ≡ rule i)) (ys : List X) (d : X) where
  made_from : (i n : ℕ) → IsFromFnResultFrom g f ys i n → (k : ℕ) → i ≤ k → k < i + n → get_or ys k d ≡ rule k
  made_from i zero r k l h = let z : ⊥ = omega arith in absurd z
  made_from i (suc n) r k l h =
      let each = gives i r.1 r.0 r.3 in
      by_bool (eqb k i)
      (λ t. let e : k ≡ i = eqb-true k i t in ap (λ j. get_or ys j d) e ∙ r.2.1 d ∙ each.1 ∙ ap rule (sym e))
      (λ u.
      let ne = eqb-false k i u in
      made_from (i + 1) n (subst (λ (q : F). IsFromFnResultFrom g q ys (i + 1) n) each.0 r.4) k (omega arith) (omega arith))

  pub made : {n : ℕ} → IsFromFnResult g f ys n → (k : ℕ) → k < n → get_or ys k d ≡ rule k
  made {n} r k h = made_from 0 n r.each k (omega arith) (omega arith)

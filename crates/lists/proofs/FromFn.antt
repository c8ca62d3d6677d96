-- Arrays that `from_fn` makes by a rule of the index.
use Rattle.std.specs.Array.{IsFromFnResult, IsFromFnResultFrom}
use Rattle.std.specs.Fn.{Called}
use Rattle.std.specs.Prelude.{ℕ, zero, suc, ◌+◌, ◌<◌, ◌≤◌, ◌≡◌, List, [], ◌∷◌, ◌++◌, eqb, length, get_or}
use Rattle.std.proofs.Common.{arith, sym, ap, ◌∙◌, subst}
use Rattle.std.proofs.lemmas.List.{ext_get_or}
use borrow.Author.Tests.{eqb-true, eqb-false}
use denote.Param.Members.{Mut}
use Rattle.lists.specs.Cases.{by_bool}
use Rattle.lists.specs.Tables.{made-length, made_at}

module _ {F : Type 0} (g : Mut F (ℕ × Unit {0}) ℕ) (rule : ℕ → ℕ) (f : F)
    (gives : (i y : ℕ) (q : F) → Called g f (i, tt) y q → (q ≡ f) × (y ≡ rule i)) (ys : List ℕ) where
  filled_from : (i n : ℕ) → IsFromFnResultFrom g f ys i n → (k : ℕ) → i ≤ k → k < i + n → get_or ys k 0 ≡ rule k
  filled_from i zero r k l h = let z : ⊥ = omega arith in absurd z
  filled_from i (suc n) r k l h =
      let each = gives i r.1 r.0 r.3 in
      by_bool (eqb k i)
      (λ t. let e : k ≡ i = eqb-true k i t in ap (λ j. get_or ys j 0) e ∙ r.2.1 0 ∙ each.1 ∙ ap rule (sym e))
      (λ u.
      let ne = eqb-false k i u in
      filled_from (i + 1) n (subst (λ (q : F). IsFromFnResultFrom g q ys (i + 1) n) each.0 r.4) k (omega arith) (omega arith))

  -- the element at each index is what the rule gives
  pub filled_at : {n : ℕ} → IsFromFnResult g f ys n → (k : ℕ) → k < n → get_or ys k 0 ≡ rule k
  filled_at {n} r k h = filled_from 0 n r.each k (omega arith) (omega arith)

  -- so the array is the list that is made by the rule, element by element
  pub filled_whole : (made : ℕ → List ℕ) → made 0 ≡ [] → ((n : ℕ) → made (suc n) ≡ made n ++ (rule n ∷ [])) → {n : ℕ}
      → IsFromFnResult g f ys n → ys ≡ made n
  filled_whole made none more {n} r =
      let long = made-length rule made none more n in
      ext_get_or 0 ys (made n) (r.long ∙ sym long)
      (λ k h. let low : k < n = omega (arith, r.long) in filled_at r k low ∙ sym (made_at rule made none more n k low))

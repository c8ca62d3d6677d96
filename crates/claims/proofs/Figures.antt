-- The figures of a bundle whose events pass the checks and are all of one list that fits in the store: none is refused, and the
-- count rises by the new ones.
use Prim.Native.Nat.{ℕ, ◌+◌, ◌≤◌, ◌<◌}
use native.Mathlib.Omega.{arith}
use mathlib.Core.Path.{◌≡◌, refl, sym, ap, ◌∙◌, subst}
use mathlib.Core.Logic.{⊎_elim}
use mathlib.Core.Bool.{Bool, true, false}
use mathlib.Core.Option.{none}
use mathlib.Core.List.Memᴰ
use mathlib.Core.List.{
  List,
  [],
  ◌∷◌,
  ◌++◌,
  map,
  Memᴰ,
}
use lib.ListN.{length}
use borrow.Author.Tests.{lt-ltb}
use Rattle.lists.specs.Cases.{by_bool, clash}
use Rattle.lists.specs.Bytes.{Bytes}
use Rattle.lists.specs.Tests.{member_of, Within}
use Rattle.lists.proofs.Tests.{member←}
use Rattle.lists.specs.Sorting.{Distinct}
use Rattle.lists.proofs.Counting.{distinct_length}
use Rattle.lists.specs.Chunks.{length-chunks}
use Rattle.octets.specs.Octets.{part}
use Rattle.sha256.specs.Sha256.{sha256}
use Rattle.cords.specs.Lent.{lent_entry}
use Rattle.event.specs.Answers.{value}
use Rattle.event.specs.Checks.{refusal}
use Rattle.model.specs.Store.{places, store_good}
use Rattle.model.proofs.StoreLaws.{checked→, checked_held, places_first}
use Rattle.takes.specs.declared.Placed.TheVariants.{Stored, Repeat}
use Rattle.takes.specs.Takes.{take_answer, after_take, counted, Run, step, run_of}
use Rattle.takes.specs.TakeLaws.{Good}
use Rattle.takes.proofs.TakeLaws.{take_by_lem, take_answer_good, take_places, take-creator, take_keeps}

-- no two held places have one id
pub held_distinct : (entry : ℕ → ℕ → ℕ) (store : Bytes) (count : ℕ) → store_good entry store count ≡ true
    → Distinct sha256 (places store count)
held_distinct entry store count t =
    let k = checked→ entry store count t in
    subst (Distinct sha256) (sym (places_first store count k.at_least)) (checked_held entry store count k).distinct

module _ (table c : Bytes) (whole : List Bytes) (few : length whole ≤ 256)
    (pass : (e : Bytes) → Memᴰ e whole → refusal (lent_entry table) c e ≡ none) where
  -- what every take keeps: check 2 passes, the creator stands first, and what is held is of the list
  pub record Running (r : Run) : Type 0 where
    pub good : Good table r.store r.count
    pub creator_first : part r.store 0 192 ≡ c
    pub within : Within (places r.store r.count) whole

  module _ (r : Run) (e : Bytes) (k : Running r) (i : Memᴰ e whole) where
    abbrev held : List Bytes
    held = places r.store r.count

    abbrev known : Bool
    known = member_of (sha256 e) (map sha256 held)

    -- an event of the list whose id is new finds a place
    room : known ≡ false → r.count < 256
    room f =
        let other : (y : Bytes) → Memᴰ y held → sha256 y ≡ sha256 e → ⊥ =
        λ y j q. clash known (member← (sha256 e) (map sha256 held) (Memᴰ.cast (sym q) (Memᴰ.map sha256 j))) f in
        let inside : Within (e ∷ held) whole =
        λ y j. ⊎_elim (λ q. Memᴰ.cast q i) (λ n. k.within y n) (Memᴰ.cases_cons j) in
        let apart = held_distinct (lent_entry table) r.store r.count k.good.passes in
        let a = distinct_length sha256 (e ∷ held) whole (other, apart) inside in
        let b = length-chunks 192 r.store r.count in
        omega (arith, few)

    passes : refusal (lent_entry table) (part r.store 0 192) e ≡ none
    passes = ap (λ (x : Bytes). refusal (lent_entry table) x e) k.creator_first ∙ pass e i

    again : known ≡ true → take_answer table r.store r.count e ≡ value Repeat
    again t = take_answer_good table r.store r.count e k.good ∙ rw (passes, t)

    new : known ≡ false → take_answer table r.store r.count e ≡ value Stored
    new f = take_answer_good table r.store r.count e k.good ∙ rw (passes, f, lt-ltb r.count 256 (room f))

    within-next : Within (places (step table r e).store (step table r e).count) whole
    unfolding step
    within-next =
        by_bool known
        (λ t. subst (λ (l : List Bytes). Within l whole) (sym (take_places table r.store r.count e ∙ rw (again t))) k.within)
        (λ f. subst (λ (l : List Bytes). Within l whole) (sym (take_places table r.store r.count e ∙ rw (new f))) more)
      where
        more : Within (held ++ (e ∷ [])) whole
        more y j =
            ⊎_elim (λ n. k.within y n) (λ n. Memᴰ.cast (Memᴰ.eq_of_singleton n) i) (Memᴰ.append_cases held j)

    next : Running (step table r e)
    unfolding step
    next =
        record {
          good = take_keeps table r.store r.count e k.good;
          creator_first = take-creator table r.store r.count e k.good ∙ k.creator_first;
          within = within-next;
        }

  -- of the figures and the counts before and after
  pub record Rises (r z : Run) : Type 0 where
    pub by_new : z.figures.new + r.count ≡ r.figures.new + z.count
    pub none_refused : z.figures.refused ≡ r.figures.refused

  step_rises : (r : Run) (e : Bytes) → Running r → Memᴰ e whole → r.figures.new < 4294967295
      → Rises r (step table r e) × ((step table r e).figures.new ≤ r.figures.new + 1)
  unfolding step counted after_take
  step_rises r e k i h =
      by_bool (known r e k i)
      (λ t. rw (take_by_lem table r.store r.count e (value Repeat) (again r e k i t)) (record { by_new = refl; none_refused = refl }, omega arith))
      (λ f.
      rw (take_by_lem table r.store r.count e (value Stored) (new r e k i f), lt-ltb r.figures.new 4294967295 h)
      (record { by_new = omega arith; none_refused = refl }, omega arith))

  pub run_rises : (r : Run) (es : List Bytes) → Running r → Within es whole → r.figures.new + length es ≤ 4294967295
      → Rises r (run_of table r es)
  unfolding run_of
  run_rises r [] k h b = record { by_new = refl; none_refused = refl }
  run_rises r (e ∷ es) k h b =
      let i = h e (Memᴰ.head refl) in
      let one = step_rises r e k i (omega arith) in
      let low = one.1 in
      let rest = run_rises (step table r e) es (next r e k i) (λ y j. h y (Memᴰ.tail j)) (omega arith) in
      let x = one.0.by_new in
      let y = rest.by_new in
      record { by_new = omega arith; none_refused = rest.none_refused ∙ one.0.none_refused }

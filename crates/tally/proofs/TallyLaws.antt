-- Laws over the words of specs/TallyLaws.
-- The figures that a bundle adds are its events' answers, counted in the lent tally one by one.
use Rattle.std.specs.Prelude.{ℕ, ◌+◌, ◌≤◌, ◌≡◌, refl, true, false, List, [], ◌∷◌, ltb}
use Rattle.std.proofs.Common.{arith, sym, ap, ◌∙◌, ltb-true, ltb-false, lt-ltb, le-ltb}
use Rattle.std.proofs.Math.Option.{none}
use Rattle.lists.specs.Cases.{by_bool, by_option}
use Rattle.lists.specs.Bytes.{Bytes}
use Rattle.event.specs.Answers.{Answer, value, refused, first_failed}
use Rattle.model.specs.Bundle.{events_in}
use Rattle.takes.specs.declared.Tally.{Tally}
use Rattle.takes.specs.declared.Placed.{Placed}
use Rattle.takes.specs.declared.Placed.TheVariants.{Stored, Repeat}
use Rattle.takes.specs.Takes.{take_of, raised, counted, Run, step, run_of, no_figures, bundle_tests, bundle_of}
use Rattle.takes.specs.TakeLaws.{fresh_run}
use Rattle.tally.specs.Tallies.{raised_by, add_figures, tallied}
use Rattle.tally.specs.TallyLaws.{over, Fits, lent_run}

low : (x k : ℕ) → x + k ≤ 4294967295 → raised_by x k ≡ x + k
low x k h =
    by_bool (ltb (x + k) 4294967295) (λ t. rw t) (λ f. let g = ltb-false (x + k) 4294967295 f in rw f (omega arith))

full : (x k : ℕ) → 4294967295 ≤ x + k → raised_by x k ≡ 4294967295
full x k h = rw (le-ltb (x + k) 4294967295 h)

-- k answers and then one are k + 1 answers
raised_more : (x k : ℕ) → raised (raised_by x k) ≡ raised_by x (raised k)
raised_more x k = by_bool (ltb (x + k) 4294967295) below at-end
  where
    below : ltb (x + k) 4294967295 ≡ true → raised (raised_by x k) ≡ raised_by x (raised k)
    below t =
        let h = ltb-true (x + k) 4294967295 t in
        let more = low x (k + 1) (omega arith) in
        rw (low x k (omega arith), t, lt-ltb k 4294967295 (omega arith)) (omega arith)

    at-end : ltb (x + k) 4294967295 ≡ false → raised (raised_by x k) ≡ raised_by x (raised k)
    at-end f =
        let h = ltb-false (x + k) 4294967295 f in
        let more : raised_by x (raised k) ≡ 4294967295 =
        by_bool (ltb k 4294967295) (λ t. rw t (full x (k + 1) (omega arith))) (λ g. rw g (full x k h)) in
        ap raised (full x k h) ∙ sym more

-- one answer more
counted_more : (t f : Tally) (a : Answer Placed) → counted (add_figures t f) a ≡ add_figures t (counted f a)
unfolding counted
counted_more t f (value Stored) = rw (raised_more t.new f.new)
counted_more t f (value Repeat) = rw (raised_more t.repeats f.repeats)
counted_more t f (refused n) = rw (raised_more t.refused f.refused)

step-over : (table : Bytes) (t : Tally) (r : Run) (e : Bytes) → step table (over t r) e ≡ over t (step table r e)
unfolding step
step-over table t r e = rw (counted_more t r.figures (take_of table r.store r.count e).answer)

pub run-over : (table : Bytes) (t : Tally) (r : Run) (es : List Bytes) → run_of table (over t r) es ≡ over t (run_of table r es)
unfolding run_of
run-over table t r [] = refl
run-over table t r (e ∷ es) = rw (step-over table t r e) (run-over table t (step table r e) es)

-- nothing counted yet
raised_none : (x : ℕ) → x ≤ 4294967295 → raised_by x 0 ≡ x
raised_none x h = low x 0 (omega arith) ∙ omega arith

over_none : (t : Tally) → Fits t → add_figures t no_figures ≡ t
over_none t h =
    rw (raised_none t.new h.new_fits, raised_none t.repeats h.repeats_fit, raised_none t.refused h.refused_fit)

-- taking a list of events one by one and counting each answer in a lent tally leaves count and store as without it, and adds the
-- figures
pub run-tallied : (table s : Bytes) (n : ℕ) (es : List Bytes) (t : Tally) → Fits t
    → run_of table (lent_run t s n) es ≡ over t (run_of table (fresh_run s n) es)
run-tallied table s n es t h =
    ap (λ (u : Tally). run_of table (lent_run u s n) es) (sym (over_none t h)) ∙ run-over table t (fresh_run s n) es

-- the same of a bundle that is not refused: tally, count and store after it are those of the run that counts in the lent tally
pub bundle-tallied : (table s : Bytes) (n : ℕ) (b : Bytes) (t f : Tally) → Fits t
    → (bundle_of table s n b).answer ≡ value f
    → run_of table (lent_run t s n) (events_in b)
    ≡ record { figures = tallied t (value f); count = (bundle_of table s n b).count; store = (bundle_of table s n b).store }
unfolding bundle_of tallied
bundle-tallied table s n b t f h p =
    by_option (first_failed (bundle_tests table s n b)) passed
    (λ k q. let z : refused k ≡ value f = rw q at p in let w : ◌≡◌ {A = ℕ} 0 1 = cc in absurd (omega arith))
  where
    passed : first_failed (bundle_tests table s n b) ≡ none
        → run_of table (lent_run t s n) (events_in b)
        ≡ record { figures = add_figures t f; count = (bundle_of table s n b).count; store = (bundle_of table s n b).store }
    passed q =
        let same : value (run_of table (fresh_run s n) (events_in b)).figures ≡ value f = rw q at p in
        let figures : (run_of table (fresh_run s n) (events_in b)).figures ≡ f = cc in
        rw (q, ← figures) (run-tallied table s n (events_in b) t h)

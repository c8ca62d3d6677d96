-- A call that returns 0 has a value, and none returns 11: no refusal has the number 0, or the struck one.
use Rattle.std.specs.Prelude.{ℕ, ◌≡◌, Bool, true, false, not, ◌&&◌, List, [], ◌∷◌, eqb, leb, ltb, length}
use Rattle.std.proofs.Common.{arith, sym, ap, ◌∙◌}
use Rattle.std.proofs.Math.Path.{refl}
use Rattle.std.proofs.Math.Option.{some, none-ne-some, some-injective}
use Rattle.lists.specs.Cases.{by_bool, by_option, clash, and→}
use Rattle.lists.specs.Bytes.{Bytes}
use Rattle.lists.specs.Tests.{member_of}
use Rattle.event.specs.Answers.{Answer, value, refused, shown_number, Test, must, first_failed}
use Rattle.sha256.specs.Sha256.{sha256}
use Rattle.model.specs.Rows.{order_bytes, map_bytes, written_bytes}
use Rattle.store.specs.LookUp.{held_ids, look_up_tests, look_up_of}
use Rattle.bundles.specs.FirstEvent.{first_tests, first_of}
use Rattle.takes.specs.Takes.{start_tests, start_of, take_tests, take_answer, take_of, bundle_tests, bundle_of}
use Rattle.takes.proofs.TakeLaws.{take-answers}
use Rattle.reports.specs.Reports.{held_view, write_tests, verdict_tests, report, order_of, map_of, written_of, verdict_of}
use Rattle.text.specs.Text.{room_text, text_of}
use Rattle.unit_c.specs.Numbers.{document_of, id_tests, id_of, ids_tests, ids_of}

-- a number that is given out with a refusal: neither 0 nor 11
abbrev pub given_out : ℕ → Bool
given_out n = not (eqb n 0) && not (eqb n 11)

abbrev pub numbered : {A : Type 0} → Answer A → Bool
numbered (value a) = true
numbered (refused n) = given_out n

-- an answer that returns 0 then has a value
pub zero_is_value : {A : Type 0} (a : Answer A) → numbered a ≡ true → shown_number a ≡ 0 → (x : A) × (a ≡ value x)
zero_is_value (value x) p e = (x, refl)
zero_is_value (refused n) p e = clash false (ap given_out (sym e) ∙ p) refl

-- and none returns 11
pub never_11 : {A : Type 0} (a : Answer A) → numbered a ≡ true → shown_number a ≡ 11 → ⊥
never_11 (value x) p e = omega (arith, e)
never_11 (refused n) p e = clash false (ap given_out (sym e) ∙ p) refl

-- the number of each test is given out
abbrev all_given_out : List Test → Bool
all_given_out [] = true
all_given_out (must n passed ∷ tests) = given_out n && all_given_out tests

-- so is that of the first that fails
failed_given_out : (tests : List Test) → all_given_out tests ≡ true → (n : ℕ) → first_failed tests ≡ some n → given_out n ≡ true
failed_given_out [] p n e = absurd (none-ne-some n e)
failed_given_out (must k passed ∷ tests) p n e =
    by_bool passed
    (λ t. failed_given_out tests (and→ (given_out k) (all_given_out tests) p).1 n (rw t at e))
    (λ f. let same = some-injective k n (rw f at e) in ap given_out (sym same) ∙ (and→ (given_out k) (all_given_out tests) p).0)

-- and the number of a report
report-numbered : {A : Type 0} (tests : List Test) → all_given_out tests ≡ true → (a : A) (bytes out : Bytes)
    → numbered (report (first_failed tests) a bytes out).answer ≡ true
report-numbered tests p a bytes out =
    by_option (first_failed tests) (λ e. rw e) (λ n e. rw e (failed_given_out tests p n e))

-- the answers of the calls, each by its list of tests
module _ (table store : Bytes) (count : ℕ) where
  pub take-numbered : (e : Bytes) → numbered (take_of table store count e).answer ≡ true
  unfolding take_answer
  take-numbered e =
      rw (take-answers table store count e)
      (by_option (first_failed (take_tests table store count e))
      (λ p.
      rw p
      (by_bool (member_of (sha256 e) (held_ids store count))
      (λ t. rw t)
      (λ f. rw f (by_bool (ltb count 256) (λ t. rw t) (λ g. rw g)))))
      (λ n p. rw p (failed_given_out (take_tests table store count e) refl n p)))

  pub bundle-numbered : (b : Bytes) → numbered (bundle_of table store count b).answer ≡ true
  unfolding bundle_of
  bundle-numbered b =
      by_option (first_failed (bundle_tests table store count b)) (λ p. rw p) (λ n p. rw p (failed_given_out (bundle_tests table store count b) refl n p))

  pub look_up_numbered : (id : Bytes) → numbered (look_up_of table store count id) ≡ true
  unfolding look_up_of
  look_up_numbered id =
      by_option (first_failed (look_up_tests table store count id)) (λ p. rw p) (λ n p. rw p (failed_given_out (look_up_tests table store count id) refl n p))

  pub verdict-numbered : (id : Bytes) → numbered (verdict_of table store count id) ≡ true
  unfolding verdict_of
  verdict-numbered id =
      by_option (first_failed (verdict_tests table store count id)) (λ p. rw p) (λ n p. rw p (failed_given_out (verdict_tests table store count id) refl n p))

  module _ (out : Bytes) where
    abbrev writes : Bytes → List Test
    writes bytes = write_tests table store count bytes out

    pub order-numbered : numbered (order_of table store count out).answer ≡ true
    unfolding order_of
    order-numbered = report-numbered (writes (order_bytes (held_view store count))) refl _ _ out

    pub map-numbered : numbered (map_of table store count out).answer ≡ true
    unfolding map_of
    map-numbered = report-numbered (writes (map_bytes (held_view store count))) refl _ _ out

    pub write_out_numbered : numbered (written_of table store count out).answer ≡ true
    unfolding written_of
    write_out_numbered = report-numbered (writes (written_bytes (held_view store count))) refl _ _ out

    pub text-numbered : numbered (text_of table store count out).answer ≡ true
    unfolding text_of
    text-numbered = report-numbered (writes (room_text (held_view store count))) refl _ _ out

pub start_numbered : (table store e : Bytes) → numbered (start_of table store e).answer ≡ true
unfolding start_of
start_numbered table store e =
    by_option (first_failed (start_tests table store e)) (λ p. rw p) (λ n p. rw p (failed_given_out (start_tests table store e) refl n p))

pub first_numbered : (b : Bytes) → numbered (first_of b) ≡ true
unfolding first_of
first_numbered b = by_option (first_failed (first_tests b)) (λ p. rw p) (λ n p. rw p (failed_given_out (first_tests b) refl n p))

pub document_numbered : (out : Bytes) → numbered (document_of out).answer ≡ true
unfolding document_of
document_numbered out = report-numbered (must 10 (leb 512 (length out)) ∷ []) refl _ _ out

pub id_numbered : (event out : Bytes) → numbered (id_of event out).answer ≡ true
unfolding id_of
id_numbered event out = report-numbered (id_tests event out) refl _ _ out

pub ids-numbered : (events out : Bytes) → numbered (ids_of events out).answer ≡ true
unfolding ids_of
ids-numbered events out = report-numbered (ids_tests events out) refl _ _ out

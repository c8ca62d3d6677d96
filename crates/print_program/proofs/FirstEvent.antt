-- What the answer to the question for a first event tells.
use Rattle.std.specs.Prelude.{ℕ, ◌≡◌, refl, [], length}
use Rattle.std.proofs.Common.{ap, get_or}
use Rattle.std.specs.Borrow.{Bor}
use Rattle.lists.specs.Bytes.{Bytes}
use Rattle.octets.specs.Octets.{part_address}
use Rattle.event.specs.Answers.{Answer, value, refused}
use Rattle.model.specs.Bundle.{events_in}
use Rattle.bundles.specs.FirstEvent.{first_of, first_part}

module _ (b : Bor Bytes) where
  refused_by : (n : ℕ) (a : Answer ℕ) → refused n ≡ first_part b a → a ≡ refused n
  refused_by n (value at) e = cc
  refused_by n (refused k) e = cc

  -- a refusal of the first event
  pub first_refused : (n : ℕ) → refused n ≡ first_part b (first_of b.now) → first_of b.now ≡ refused n
  first_refused n e = refused_by n (first_of b.now) e

  -- there is a first event, and the part has its bytes
  abbrev Given : Bor Bytes → Answer ℕ → Type 0
  Given g a = (at : ℕ) × (a ≡ value at) × (g.now ≡ get_or (events_in b.now) 0 [])

  given_by : (g : Bor Bytes) (a : Answer ℕ) → value g ≡ first_part b a → Given g a
  given_by g (value at) e =
      let same : g ≡ record { ref_ptr = part_address b.ref_ptr (length b.now) at; now = get_or (events_in b.now) 0 [] } = cc in
      (at, refl, ap (λ (x : Bor Bytes). x.now) same)
  given_by g (refused n) e = cc

  pub first_given : (g : Bor Bytes) → value g ≡ first_part b (first_of b.now) → Given g (first_of b.now)
  first_given g e = given_by g (first_of b.now) e

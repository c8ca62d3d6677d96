-- What the functions' answers come to, over plain values.
use Prim.Native.Nat.{ℕ, zero, suc, ◌+◌, ◌-◌, ◌*◌, ◌<◌}
use native.Mathlib.Nat.{div-zero}
use native.Mathlib.Omega.{arith}
use mathlib.Core.Path.{◌≡◌, refl, sym, ap, ◌∙◌}
use mathlib.Core.Bool.{Bool, false, ◌&&◌, ◌||◌}
use mathlib.Core.Option.{Option as ModelOption, none, some}
use Rattle.std.specs.Prelude.{Option, Some, None, MatchOption}
use mathlib.Core.List.{List, [], ◌∷◌, map}
use Rattle.std.proofs.lemmas.List.{get_or-map}
use borrow.Author.Tests.{eq-eqb, ne_eqb, lt-ltb}
use lib.Dec.{eqb, ltb}
use lib.ListN.{length, get_or}
use Rattle.std.specs.Prelude.{slice_range}
use Rattle.ordering.specs.Named.{number_of_spot}
use Rattle.ordering.specs.declared.Spot.{Spot}
use Rattle.ancestry.proofs.FilledRows.{three_parents}
use Rattle.std.specs.List.{list_all}
use Rattle.lists.specs.Bytes.{Bytes}
use Rattle.lists.specs.Cases.{by_bool}
use Rattle.lists.specs.Tests.{any_of}
use Rattle.event.specs.declared.Grant.{Grant}
use Rattle.event.specs.Fields.{author_of, event_at}
use Rattle.event.specs.Contents.{body_of}
use Rattle.model.specs.Verdicts.{given_by, has}
use Rattle.authority.proofs.AuthorityLaws.{and-three}
use Rattle.authority.specs.Found.{place_number, given_from, given_at}
use Rattle.authority.specs.Lines.{line_from}
use Rattle.authority.specs.declared.Right.{Right}
use Rattle.authority.specs.Sound.{right_number, asked_number, parent_sound, parents_sound}
use Rattle.authority.specs.declared.Given.{Given}

-- ── lines ───────────────────────────────────────────────────────────────────────────────────────────────────────────────

module _ (Q : List (Option ℕ)) (sought place left : ℕ) where
  -- whether the sought place is on the line of the place
  abbrev on : Bool
  on = any_of (eqb sought) (line_from (map place_number Q) left place)

  pub no_steps : left ≡ 0 → on ≡ false
  unfolding line_from
  no_steps e = rw e

  module _ (size : length Q ≡ 256) (low : place < 256) where
    entry : get_or (map place_number Q) place 0 ≡ place_number (get_or Q place None)
    entry = let inside : place < length Q = omega (arith, size, low) in get_or-map place_number Q place None 0 inside

    -- nothing is presented
    pub no_more : get_or Q place None ≡ None → on ≡ false
    unfolding line_from
    no_more e = go left
      where
        go : (f : ℕ) → any_of (eqb sought) (line_from (map place_number Q) f place) ≡ false
        go zero = refl
        go (suc f) = rw (entry, e)

    -- one step
    line_step : (p : ℕ) → get_or Q place None ≡ Some p → p < 256 → (left ≡ 0 → ⊥)
        → on ≡ (eqb sought p || any_of (eqb sought) (line_from (map place_number Q) (left - 1) p))
    unfolding line_from
    line_step p e h ne = go left ne
      where
        go : (f : ℕ) → (f ≡ 0 → ⊥) → any_of (eqb sought) (line_from (map place_number Q) f place)
            ≡ (eqb sought p || any_of (eqb sought) (line_from (map place_number Q) (f - 1) p))
        go zero ne = absurd (ne refl)
        go (suc f) ne = let less : suc f - 1 ≡ f = omega arith in rw (less, entry, e, lt-ltb p 256 h)

    -- the place sought is the presented one, or the question is passed on
    pub here : (p : ℕ) → get_or Q place None ≡ Some p → p < 256 → (left ≡ 0 → ⊥) → sought ≡ p → eqb sought p ≡ on
    here p e h ne same = sym (line_step p e h ne ∙ rw (eq-eqb sought p same) refl)

    pub onward : (p : ℕ) → get_or Q place None ≡ Some p → p < 256 → (left ≡ 0 → ⊥) → (sought ≡ p → ⊥)
        → any_of (eqb sought) (line_from (map place_number Q) (left - 1) p) ≡ on
    onward p e h ne other = sym (line_step p e h ne ∙ rw (ne_eqb sought p other) refl)

-- ── rights ──────────────────────────────────────────────────────────────────────────────────────────────────────────────

-- no right is the right 0
pub asks : (r : ℕ) (o : Option Right) (b : Bool) → MatchOption o (b ≡ false) (λ q. b ≡ has r (right_number q)) → b ≡ has r (asked_number o)
asks r None b e = rw (div-zero r) e
asks r (Some q) b e = e

-- ── parents ─────────────────────────────────────────────────────────────────────────────────────────────────────────────

-- a test of spots by their numbers
all_numbers : (t : ℕ → Bool) (spots : List Spot) → list_all (λ s. t (number_of_spot s)) spots ≡ list_all t (map number_of_spot spots)
all_numbers t [] = refl
all_numbers t (s ∷ spots) = ap (λ b. t (number_of_spot s) && b) (all_numbers t spots)

pub parents_all : (P : List ℕ) (S : List Bool) (k : ℕ) (spots : List Spot) → length spots ≡ 3
    → map number_of_spot spots ≡ slice_range P (k * 5) (k * 5 + 3)
    → list_all (λ s. parent_sound S (number_of_spot s)) spots ≡ parents_sound P S k
unfolding parents_sound
parents_all P S k spots size e =
    all_numbers (parent_sound S) spots
    ∙ ap (list_all (parent_sound S)) (three_parents P k spots size e)
    ∙ sym (and-three (parent_sound S (get_or P (k * 5) 0)) (parent_sound S (get_or P (k * 5 + 1) 0)) (parent_sound S (get_or P (k * 5 + 2) 0)))

-- ── soundness ───────────────────────────────────────────────────────────────────────────────────────────────────────────

-- what gives stands at the place
pub given_place : (store : Bytes) (p : ℕ) (x : Given) → given_at store p ≡ Some x → x.place ≡ p
unfolding given_at
given_place store p x = by_bool (ltb p 256) (λ t. rw t (go (given_by (author_of (event_at store p)) (body_of (event_at store p))))) (λ f. rw f (λ e. cc))
  where
    go : (o : ModelOption Grant) → given_from p o ≡ Some x → x.place ≡ p
    go (some g) e = let same : ◌≡◌ {A = Given} (record { place = p; grant = g }) x = cc in sym (ap (λ (y : Given). y.place) same)
    go none e = cc

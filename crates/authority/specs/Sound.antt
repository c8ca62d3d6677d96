-- Soundness by places. P is the table of named places, Q the presented places, G the targets, S the places found sound, l the
-- settled places, each behind its parents.
use Rattle.std.specs.Prelude.{ℕ, ◌+◌, ◌*◌, ◌≡◌, refl, Bool, true, false, cond, not, ◌&&◌, ◌||◌, eqb, ltb, get_or, Option, Some, None}
use mathlib.Core.List.{List, Memᴰ}
use Rattle.lists.specs.Bytes.{Bytes}
use Rattle.lists.specs.Cases.{maybe}
use Rattle.lists.specs.Tests.{any_of}
use Rattle.event.specs.declared.Body.{Body}
use Rattle.event.specs.declared.Grant.{Grant}
use Rattle.event.specs.Fields.{author_of, event_at}
use Rattle.event.specs.Contents.{body_of}
use Rattle.model.specs.Events.{revokes}
use Rattle.model.specs.Verdicts.{has, right_for, covers_body}
use Rattle.ordering.specs.Named.{missing, no_place}
use Rattle.authority.specs.Found.{given_at, grant_in}
use Rattle.authority.specs.Lines.{line_from}
use Rattle.authority.specs.declared.Right.{Right}
use Rattle.authority.specs.declared.Right.TheVariants.{Patch, Grant as GrantRight, Revoke}

-- "the sum of 1 patch, 2 grant, 4 revoke"
abbrev pub right_number : Right → ℕ
right_number Patch = 1
right_number GrantRight = 2
right_number Revoke = 4

-- the right that an event asks, 0 for none
abbrev pub asked_number : Option Right → ℕ
asked_number (Some q) = right_number q
asked_number None = 0

-- "its parents are sound": of a parent at place p, or `no_place`
abbrev pub parent_sound : List Bool → ℕ → Bool
parent_sound S p = eqb p no_place || get_or S p false

unfoldable pub parents_sound : List ℕ → List Bool → ℕ → Bool
parents_sound P S k =
    parent_sound S (get_or P (k * 5) 0) && parent_sound S (get_or P (k * 5 + 1) 0) && parent_sound S (get_or P (k * 5 + 2) 0)

-- what P gives permits an event of this author and body: its subject is the author, it has the right, and a grant's rights lie within
unfoldable pub permits_by : ℕ → Body → Grant → Bool
permits_by author body g = eqb g.subject author && has g.rights (right_for body) && covers_body g body

-- "a revoke's target is an ancestor of kind grant, and P is on the target's line"; p is the place of P, t that of the target. 256
-- steps are enough for every line.
unfoldable pub target_suits_at : List ℕ → Body → ℕ → ℕ → Bool
target_suits_at Q body p t = not (revokes body) || (ltb t missing && any_of (eqb p) (line_from Q 256 t))

-- the five conditions; the creator, at place 0, is sound
unfoldable pub sound_at : Bytes → List ℕ → List ℕ → List ℕ → List Bool → ℕ → Bool
sound_at store P Q G S k =
    eqb k 0
    || (parents_sound P S k
    && maybe false (permits_by (author_of (event_at store k)) (body_of (event_at store k))) (grant_in (given_at store (get_or Q k 0)))
    && target_suits_at Q (body_of (event_at store k)) (get_or Q k 0) (get_or G k 0))

-- 1 for true, 0 for false
abbrev pub bit : Bool → ℕ
bit b = cond b 1 0

pub bit_test : (b : Bool) → eqb (bit b) 1 ≡ b
bit_test true = refl
bit_test false = refl

-- the table says of each listed place whether it is sound, from what it says of the parents; another place is not
pub record SoundTable (store : Bytes) (P Q G l : List ℕ) (S : List Bool) : Type 0 where
  pub made : (k : ℕ) → Memᴰ k l → get_or S k false ≡ sound_at store P Q G S k
  pub rest : (k : ℕ) → (Memᴰ k l → ⊥) → get_or S k false ≡ false

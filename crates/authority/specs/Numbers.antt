-- Tables of presented places and of targets that hold any numbers. Each number from `missing` on is no place, so that the tables say the
-- same with `missing` there.
use Rattle.std.specs.Prelude.{ℕ, zero, suc, ◌≡◌, refl, Bool, true, false, List, [], ◌∷◌, map, ltb, get_or}
use Rattle.std.proofs.Common.{◌∙◌}
use Rattle.std.proofs.Math.Bool.{and-false}
use Rattle.lists.specs.Bytes.{Bytes}
use Rattle.lists.specs.Cases.{by_bool}
use Rattle.ordering.specs.Named.{missing, held_place}
use Rattle.authority.specs.Found.{place_number, given_at}
use Rattle.authority.specs.Lines.{line_from}
use Rattle.authority.specs.Sound.{parents_sound, target_suits_at, sound_at, SoundTable}

-- the number of a place, and `missing` for each that is none
abbrev pub held_number : ℕ → ℕ
held_number p = place_number (held_place p)

-- a table with each number read so
abbrev pub held_numbers : List ℕ → List ℕ
held_numbers Q = map place_number (map held_place Q)

low : (p : ℕ) → ltb p missing ≡ true → held_number p ≡ p
low p t = rw t

high : (p : ℕ) → ltb p missing ≡ false → held_number p ≡ missing
high p f = rw f

entry : (Q : List ℕ) (k : ℕ) → get_or (held_numbers Q) k 0 ≡ held_number (get_or Q k 0)
entry [] k = refl
entry (q ∷ Q) zero = refl
entry (q ∷ Q) (suc k) = entry Q k

low_entry : (Q : List ℕ) (k : ℕ) → ltb (get_or Q k 0) missing ≡ true → get_or (held_numbers Q) k 0 ≡ get_or Q k 0
low_entry Q k t = entry Q k ∙ low (get_or Q k 0) t

high_entry : (Q : List ℕ) (k : ℕ) → ltb (get_or Q k 0) missing ≡ false → get_or (held_numbers Q) k 0 ≡ missing
high_entry Q k f = entry Q k ∙ high (get_or Q k 0) f

pub same_line : (Q : List ℕ) (f k : ℕ) → line_from (held_numbers Q) f k ≡ line_from Q f k
unfolding line_from
same_line Q zero k = refl
same_line Q (suc f) k =
    by_bool (ltb (get_or Q k 0) missing)
    (λ t. rw (low_entry Q k t, t, same_line Q f (get_or Q k 0)))
    (λ g. rw (high_entry Q k g, g))

module _ (store : Bytes) (P Q G : List ℕ) (S : List Bool) (k : ℕ) where
  pub same_sound : sound_at store P (held_numbers Q) (held_numbers G) S k ≡ sound_at store P Q G S k
  unfolding sound_at given_at target_suits_at
  same_sound =
      by_bool (ltb (get_or Q k 0) missing)
      (λ t.
      by_bool (ltb (get_or G k 0) missing)
      (λ u. rw (low_entry Q k t, low_entry G k u, same_line Q 256 (get_or G k 0)))
      (λ g. rw (low_entry Q k t, high_entry G k g, g)))
      (λ f. rw (high_entry Q k f, f, and-false (parents_sound P S k)))

-- what the tables so read say of sound places, the tables themselves say
pub sound_of_numbers : (store : Bytes) (P Q G l : List ℕ) (S : List Bool) → SoundTable store P (held_numbers Q) (held_numbers G) l S
    → SoundTable store P Q G l S
sound_of_numbers store P Q G l S d = record { made = λ k m. d.made k m ∙ same_sound store P Q G S k; rest = d.rest }

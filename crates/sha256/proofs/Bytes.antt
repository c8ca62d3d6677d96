-- Words as bytes, and a digest's words one after another.
-- Assumes nothing.
use Rattle.std.proofs.Common.{◌≡◌, ℕ, ◌+◌, ◌*◌, ◌/◌, ◌%◌, ◌^◌, ◌<◌, ◌≤◌, List, [], ◌∷◌, ◌++◌, length, get_or, take, drop, flat_map, refl, ◌∙◌, append-nil, append_assoc, add-one, arith, w32, w64, length-append, length-take-le, take_at, le-leb}
use Rattle.std.proofs.Math.Seq.{take-suc}
use Rattle.std.proofs.lemmas.Grind.{flat_map-append}
use Rattle.std.specs.Int.{to_be_bytes}
use Rattle.octets.specs.Octets.{pasted}
use Rattle.sha256.specs.Sha256.{word_bytes, length_bytes, digest_bytes}
use Rattle.sha256.specs.declared.State.{State}

pub word_is : (x : ℕ) → x < 2 ^ 32 → to_be_bytes w32 x ≡ word_bytes x
unfolding word_bytes
word_is x h =
    let top : x / 2 ^ 24 % 256 ≡ x / 2 ^ 24 = omega arith in
    rw top refl

pub length_is : (x : ℕ) → x < 2 ^ 64 → to_be_bytes w64 x ≡ length_bytes x
unfolding length_bytes word_bytes
length_is x h =
    let a : x / 2 ^ 56 % 256 ≡ x / 2 ^ 32 / 2 ^ 24 = omega arith in
    let b : x / 2 ^ 48 % 256 ≡ x / 2 ^ 32 / 2 ^ 16 % 256 = omega arith in
    let c : x / 2 ^ 40 % 256 ≡ x / 2 ^ 32 / 2 ^ 8 % 256 = omega arith in
    let d : x / 2 ^ 24 % 256 ≡ x % 2 ^ 32 / 2 ^ 24 = omega arith in
    let e : x / 2 ^ 16 % 256 ≡ x % 2 ^ 32 / 2 ^ 16 % 256 = omega arith in
    let f : x / 2 ^ 8 % 256 ≡ x % 2 ^ 32 / 2 ^ 8 % 256 = omega arith in
    let g : x % 256 ≡ x % 2 ^ 32 % 256 = omega arith in
    rw (a, b, c, d, e, f, g) refl

-- what was pasted stands behind what was before it
pub pasted_front : (d s : List ℕ) (at u : ℕ) → u ≡ at + length s → u ≤ length d → take u (pasted d at s) ≡ take at d ++ s
unfolding pasted
pasted_front d s at u e h =
    let front : length (take at d) ≡ at = length-take-le at d (omega arith) in
    let whole : take u ((take at d ++ s) ++ drop (length s) (drop at d)) ≡ take at d ++ s =
    take_at (take at d ++ s) (drop (length s) (drop at d)) u (simp length-append (omega arith)) in
    rw (le-leb (at + length s) (length d) (omega arith)) (rw append_assoc at whole)

-- the words of a digest
abbrev pub digest_words : State → List ℕ
digest_words s = s.a ∷ s.b ∷ s.c ∷ s.d ∷ s.e ∷ s.f ∷ s.g ∷ s.h ∷ []

pub digest_by_words : (s : State) → flat_map word_bytes (digest_words s) ≡ digest_bytes s
unfolding digest_bytes word_bytes
digest_by_words s = refl

-- one word more of them
pub word_turn : (xs o s : List ℕ) (i : ℕ) → i < length xs → get_or xs i 0 < 2 ^ 32 → (i + 1) * 4 ≤ length o
    → s ≡ to_be_bytes w32 (get_or xs i 0) → take (i * 4) o ≡ flat_map word_bytes (take i xs)
    → take ((i + 1) * 4) (pasted o (i * 4) s) ≡ flat_map word_bytes (take (i + 1) xs)
word_turn xs o s i low small room is before =
    let word : s ≡ word_bytes (get_or xs i 0) = is ∙ word_is (get_or xs i 0) small in
    let four : length s ≡ 4 = rw is refl in
    let last : flat_map word_bytes (get_or xs i 0 ∷ []) ≡ word_bytes (get_or xs i 0) = append-nil (word_bytes (get_or xs i 0)) in
    let more : take (i + 1) xs ≡ take i xs ++ (get_or xs i 0 ∷ []) = rw add-one (take-suc xs i 0 low) in
    pasted_front o s (i * 4) ((i + 1) * 4) (omega arith) room
    ∙ rw (more, flat_map-append word_bytes (take i xs) (get_or xs i 0 ∷ []), last, before, word) refl

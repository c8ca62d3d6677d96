-- Lengths written as bytes: what a turn of the loop writes, and that the constant's bytes are document 01's table.
use Prim.Native.Nat.{ℕ, suc, ◌+◌, ◌*◌, ◌/◌, ◌%◌, ◌<◌}
use native.Mathlib.Omega.{arith}
use native.Mathlib.Numerals.{add-one}
use mathlib.Core.Path.{◌≡◌, refl, sym, ap, ◌∙◌}
use mathlib.Core.List.{List, [], ◌∷◌, ◌++◌, append_assoc}
use lib.ListN.{length, get_or, take, set, length-set}
use lib.Seq.{take-suc, take-suc-set}
use Rattle.cords.specs.Cords.{entry_of}
use Rattle.cords.specs.DocumentTable.{length_bytes, ruled_lengths, document_table}
use Rattle.cords.proofs.Table.{lengths}

bytes-append : (xs ys : List ℕ) → length_bytes (xs ++ ys) ≡ length_bytes xs ++ length_bytes ys
unfolding length_bytes
bytes-append [] ys = refl
bytes-append (x ∷ xs) ys = ap (λ (l : List ℕ). x / 256 ∷ x % 256 ∷ l) (bytes-append xs ys)

-- a turn writes the two bytes of the next length
pub turn : (xs out : List ℕ) (k h l : ℕ) → k < length xs → k * 2 + 1 < length out → take (k * 2) out ≡ length_bytes (take k xs)
    → h ≡ get_or xs k 0 / 256 → l ≡ get_or xs k 0 % 256
    → take ((k + 1) * 2) (set (set out (k * 2) h) (k * 2 + 1) l) ≡ length_bytes (take (k + 1) xs)
unfolding length_bytes
turn xs out k h l hx ho e eh el =
    let two : (k + 1) * 2 ≡ suc (suc (k * 2)) = omega arith in
    let first : take (suc (k * 2)) (set out (k * 2) h) ≡ take (k * 2) out ++ (h ∷ []) = take-suc-set out (k * 2) h (omega arith) in
    let long : suc (k * 2) < length (set out (k * 2) h) = simp length-set (omega arith) in
    rw (two, add-one (k * 2), add-one k)
    (take-suc-set (set out (k * 2) h) (suc (k * 2)) l long
    ∙ ap (λ (y : List ℕ). y ++ (l ∷ [])) first
    ∙ append_assoc (take (k * 2) out) (h ∷ []) (l ∷ [])
    ∙ rw (e, eh, el, take-suc xs k 0 hx, bytes-append) refl)

ruled : ruled_lengths 256 ≡ lengths
unfolding ruled_lengths lengths entry_of
ruled = refl

pub document_bytes : length_bytes lengths ≡ document_table
unfolding document_table
document_bytes = ap length_bytes (sym ruled)

-- A message's whole blocks, and the rest of it with the padding.
-- Assumes nothing.
use Rattle.std.proofs.Common.{◌≡◌, ℕ, suc, ◌+◌, ◌-◌, ◌*◌, ◌/◌, ◌%◌, ◌^◌, ◌<◌, ◌≤◌, List, ◌∷◌, ◌++◌, length, take, drop, set, replicate, w64, sym, refl, ap, ◌∙◌, ap₂, append_assoc, arith, length-set, length-append, length-drop, take_all, take_at, drop_at}
use lib.ListN.{length-replicate}
use lib.ListN.{replicate-append-replicate}
use lib.Seq.{drop-append-le, set_at}
use Rattle.std.specs.Int.{to_be_bytes}
use Rattle.octets.specs.Octets.{pasted}
use Rattle.sha256.specs.Sha256.{length_bytes, zeros, padded, hash_blocks, hash_all}
use Rattle.sha256.specs.declared.State.{State}
use Rattle.sha256.proofs.Blocks.{blocks_append, blocks_add}
use Rattle.sha256.proofs.Bytes.{length_is, pasted_front}

-- ---- the buffer of `hash_rest`

-- l is the buffer with the rest r copied into it
module _ (r l : List ℕ) (n : ℕ) (hn : n ≡ length r)
    (hl : l ≡ r ++ drop (length r) (replicate 128 0)) where
  -- up to `at`: the rest, the byte 0x80 and k zeros
  before-length : (k at : ℕ) → at ≡ length r + suc k → at ≤ 128 → take at (set l n 0x80) ≡ r ++ 0x80 ∷ replicate k 0
  before-length k at e h =
      let j = 128 - at in
      let a : length r + suc (k + j) ≡ 128 = omega arith in
      let d : drop (length r) (replicate {A = ℕ} 128 0) ≡ 0 ∷ replicate (k + j) 0 =
      (rw a at (ap (drop {A = ℕ} (length r)) (sym (replicate-append-replicate (length r) (suc (k + j)) 0))))
      ∙ drop_at (replicate {A = ℕ} (length r) 0) _ (length r) (length-replicate (length r) 0) in
      let s : set l n 0x80 ≡ r ++ 0x80 ∷ replicate (k + j) 0 =
      rw (hn, hl, d) (set_at r 0 (replicate (k + j) 0) 0x80 (length r) refl) in
      let t : r ++ 0x80 ∷ replicate (k + j) 0 ≡ r ++ 0x80 ∷ replicate k 0 ++ replicate j 0 =
      simp (append_assoc, replicate-append-replicate) in
      ap (take at) (s ∙ t)
      ∙ take_at (r ++ 0x80 ∷ replicate k 0) (replicate j 0) at (simp (length-append, length-replicate) (omega arith))

  -- with the eight bytes of the length at its end, it is the padded rest
  pub ends : (end bits : ℕ) (v b : List ℕ) → end ≡ length r + 9 + zeros (length r) → end ≤ 128 → bits < 2 ^ 64 → b ≡ to_be_bytes w64 bits
      → v ≡ pasted (set l n 0x80) (end - 8) b → take end v ≡ padded r bits
  unfolding padded
  ends end bits v b e h small eb ev =
      let front = before-length (zeros (length r)) (end - 8) (omega arith) (omega arith) in
      let eight : length b ≡ 8 = rw eb refl in
      let long : length (set l n 0x80) ≡ 128 =
      rw hl (simp (length-set, length-append, length-drop, length-replicate) (omega arith)) in
      let whole : take end v ≡ take (end - 8) (set l n 0x80) ++ b =
      rw ev (pasted_front (set l n 0x80) b (end - 8) end (omega arith) (omega arith)) in
      whole ∙ rw (front, eb, length_is bits small) refl

-- ---- the whole message

-- blocks of m, and then the rest of m and y
rest : (z : State) (m y : List ℕ) (q : ℕ) → q * 64 ≤ length m
    → hash_all (hash_blocks z q m) (drop (q * 64) m ++ y) ≡ hash_all z (m ++ y)
unfolding hash_all
rest z m y q h =
    let j = length (drop (q * 64) m ++ y) / 64 in
    let a : length (m ++ y) / 64 ≡ q + j = simp (length-append, length-drop) (omega arith) in
    sym
    (ap (λ (n : ℕ). hash_blocks z n (m ++ y)) a ∙ blocks_add z q j (m ++ y)
    ∙ ap₂ (λ (s : State) (p : List ℕ). hash_blocks s j p) (blocks_append z q m y h) (drop-append-le (q * 64) m y h))

-- its blocks, and then its rest with the padding
pub whole : (z : State) (m : List ℕ) (bits : ℕ)
    → hash_all (hash_blocks z (length m / 64) m)
    (padded (take (length m - length m / 64 * 64) (drop (length m / 64 * 64) m)) bits)
    ≡ hash_all z (padded m bits)
unfolding padded
whole z m bits =
    let q = length m / 64 in
    let r = drop (q * 64) m in
    let n : length r ≡ length m - q * 64 = length-drop (q * 64) m in
    let t : take (length m - q * 64) r ≡ r = take_all (length m - q * 64) r (omega arith) in
    let k : length r % 64 ≡ length m % 64 = omega arith in
    rw (t, k) (simp append_assoc (rest z m (0x80 ∷ (replicate (zeros (length m)) 0 ++ length_bytes bits)) q (omega arith)))

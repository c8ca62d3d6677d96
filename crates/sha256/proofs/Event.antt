-- A message of 192 bytes.
-- Assumes nothing.
use Rattle.std.proofs.Common.{◌≡◌, ℕ, ◌*◌, ◌/◌, ◌%◌, ◌^◌, List, [], ◌∷◌, get_or, length, take, drop}
use Rattle.std.specs.Simd.{first_chunks}
use Rattle.sha256.specs.Sha256.{H0, rounds, add_states, compress, hash_blocks, digest_bytes, sha256}
use Rattle.sha256.specs.FourthBlock.{padding_block, padding_length, padding_schedule}
use Rattle.sha256.specs.declared.State.{State}
use Rattle.sha256.proofs.Blocks.{one_block, blocks_folded}
use Rattle.sha256.proofs.Padding.{whole}

-- three blocks, and the fourth by its schedule
pub event : (m : List ℕ) (bs : List (List ℕ)) {s₀ s₁ s₂ s₃ s₄ s₅ : State} → length m ≡ 192 → bs ≡ first_chunks 64 (length m / 64) m
    → s₀ ≡ H0 → s₁ ≡ compress s₀ (get_or bs 0 []) → s₂ ≡ compress s₁ (get_or bs 1 []) → s₃ ≡ compress s₂ (get_or bs 2 [])
    → s₄ ≡ rounds 64 padding_schedule s₃ → s₅ ≡ add_states s₃ s₄ → digest_bytes s₅ ≡ sha256 m
unfolding sha256
event m bs {s₀} {s₁} {s₂} {s₃} {s₄} {s₅} n chunks e₀ e₁ e₂ e₃ e₄ e₅ =
    let three : bs ≡ take 64 m ∷ take 64 (drop 64 m) ∷ take 64 (drop 64 (drop 64 m)) ∷ [] = rw n at chunks in
    let b₁ = rw three at e₁ in
    let b₂ = rw three at e₂ in
    let b₃ = rw three at e₃ in
    let h : s₃ ≡ hash_blocks H0 3 m = cc (blocks_folded H0 3 m) in
    let last : s₅ ≡ compress s₃ padding_block = unfold compress padding_schedule in cc in
    let p = one_block (hash_blocks H0 3 m) padding_block padding_length in
    let v = rw n at (whole H0 m (length m * 8 % 2 ^ 64)) in
    rw n cc

-- Hash values of blocks, one after another.
-- Assumes nothing.
use Rattle.std.proofs.Common.{◌≡◌, ℕ, zero, suc, ◌+◌, ◌*◌, ◌≤◌, List, ◌++◌, length, take, drop, sym, refl, ap, ◌∙◌, ap₂, add-zero, add-suc, arith, length-drop, take_all, drop-drop}
use Rattle.std.specs.List.{fold}
use Rattle.std.specs.Simd.{first_chunks}
use lib.Seq.{take-append-le, drop-append-le}
use Rattle.sha256.specs.Sha256.{message_block, compress, hash_blocks, hash_all}
use Rattle.sha256.specs.declared.State.{State}

-- what follows the blocks does not matter
pub blocks_append : (z : State) (n : ℕ) (p q : List ℕ) → n * 64 ≤ length p → hash_blocks z n (p ++ q) ≡ hash_blocks z n p
unfolding hash_blocks
blocks_append z zero p q h = refl
blocks_append z (suc n) p q h =
    let k : n * 64 ≤ length p = omega arith in
    let b : message_block (p ++ q) n ≡ message_block p n =
    ap (take 64) (drop-append-le (n * 64) p q k)
    ∙ take-append-le 64 (drop (n * 64) p) q (simp length-drop (omega arith)) in
    ap₂ compress (blocks_append z n p q k) b

-- blocks, and then blocks
pub blocks_add : (z : State) (a b : ℕ) (p : List ℕ)
    → hash_blocks z (a + b) p ≡ hash_blocks (hash_blocks z a p) b (drop (a * 64) p)
unfolding hash_blocks
blocks_add z a zero p = rw add-zero refl
blocks_add z a (suc b) p =
    let e : (a + b) * 64 ≡ a * 64 + b * 64 = omega arith in
    rw (add-suc, e) (ap₂ compress (blocks_add z a b p) (ap (take 64) (sym (drop-drop (b * 64) (a * 64) p))))

pub one_block : (s : State) (p : List ℕ) → length p ≡ 64 → hash_all s p ≡ compress s p
unfolding hash_all hash_blocks
one_block s p n = rw n (ap (compress s) (take_all 64 p (omega arith)))

-- the blocks one after another, as chunks of the message
pub blocks_folded : (z : State) (n : ℕ) (p : List ℕ) → fold compress z (first_chunks 64 n p) ≡ hash_blocks z n p
unfolding hash_blocks
blocks_folded z zero p = refl
blocks_folded z (suc n) p =
    let e : 1 + n ≡ suc n = omega arith in
    blocks_folded (compress z (take 64 p)) n (drop 64 p) ∙ sym (blocks_add z 1 n p) ∙ ap (λ (k : ℕ). hash_blocks z k p) e

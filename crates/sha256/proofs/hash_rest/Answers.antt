use Rattle.std.proofs.Common.{◌≡◌, ℕ, ◌+◌, ◌≤◌, List, ◌++◌, length, drop, replicate, ◌∙◌, ap, refl, arith, le-leb}
use Rattle.octets.specs.Octets.{pasted}
use Rattle.sha256.specs.Sha256.{hash_all}
use Rattle.sha256.proofs.Padding.{ends}
use Rattle.sha256.proofs.hash_rest.Goals as goal

-- the rest at the front of 128 zeros
laid : (r l : List ℕ) → length r ≤ 128 → l ≡ pasted (replicate 128 0) 0 r → l ≡ r ++ drop (length r) (replicate 128 0)
unfolding pasted
laid r l h e = e ∙ rw (le-leb (0 + length r) 128 (omega arith))

pub returns : goal.returns
unfolding hash_all
returns c =
    let r = c.args.rest.now in
    let e = ends r c.paste.new.dst (length r) refl (laid r _ (omega arith) c.paste.ensures) c.next_multiple_of-end.result c.args.bits
    c.paste-2.new.dst c.to_be_bytes.result (omega (arith, c.next_multiple_of-end.ensures.value)) (omega arith) (omega arith)
    c.to_be_bytes.ensures c.paste-2.ensures in
    c.hash_blocks.ensures ∙ ap (hash_all c.args.s) e

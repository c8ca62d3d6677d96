use Rattle.std.proofs.Common.{ℕ, List, ap, ◌∙◌}
use Rattle.sha256.specs.Sha256.{extended, rounds, add_states, compress}
use Rattle.sha256.proofs.compress.Goals as goal

pub returns : goal.returns
unfolding compress
returns c = let s = c.args.s in
    let r = c.first_rounds-r.ensures in
    c.add_states.ensures
    ∙ ap (add_states s) (c.rounds_on.ensures (extended 48 c.load_words-w.result) s r.have r.done
    ∙ ap (λ (m : List ℕ). rounds 64 (extended 48 m) s) c.load_words-w.ensures)

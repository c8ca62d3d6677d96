use Rattle.std.proofs.Common.{ℕ, List, sym, ap, ◌∙◌, rules}
use Rattle.sha256.specs.Sha256.{rounds, add_states, compress}
use Rattle.sha256.proofs.Rounds.{all_rounds}
use Rattle.sha256.proofs.Zeros.{zero_schedule}
use Rattle.sha256.proofs.compress_third.Goals as goal

pub returns-then-all_zero : goal.returns-then-all_zero
unfolding compress
returns-then-all_zero c = let s = c.args.s in
    let zero = sym c.all_zero.ensures ∙ c.if-all_zero.true in
    c.add_states.ensures
    ∙ ap (add_states s) (all_rounds _ s _ c.rounds_on.ensures
    ∙ ap (λ (w : List ℕ). rounds 64 w s) (zero_schedule _ (search rules) zero))

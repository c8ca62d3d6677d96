use Rattle.std.proofs.Common.{refl, rules}
use Rattle.lists.proofs.FromFn.{filled_whole}
use Rattle.sha256.specs.Sha256.{word_at, words}
use Rattle.sha256.proofs.load_words.Goals as goal

pub returns : goal.returns
unfolding words
returns c = let b = c.args.block.now in
    filled_whole _ (word_at b) _ (λ i y q r. search rules) _ (λ n. words n b) refl (λ n. refl) c.from_fn.ensures.items

use Rattle.std.proofs.Common.{ap, ◌∙◌}
use Rattle.std.specs.List.{fold}
use Rattle.sha256.specs.Sha256.{compress}
use Rattle.sha256.proofs.Blocks.{blocks_folded}
use Rattle.sha256.proofs.hash_blocks.Goals as goal

pub returns : goal.returns
returns c = c.fold_blocks.ensures ∙ ap (fold compress c.args.s) c.as_chunks.ensures.front ∙ blocks_folded c.args.s _ c.args.message.now

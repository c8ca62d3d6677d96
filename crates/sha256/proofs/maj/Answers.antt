use Rattle.sha256.proofs.Digits.{maj_form}
use Rattle.sha256.proofs.maj.Goals as goal

-- `sha256::maj` meets its contract.
-- Assumes nothing.

pub returns : goal.returns
returns c = maj_form c.args.x c.args.y c.args.z

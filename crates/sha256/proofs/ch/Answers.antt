use Rattle.std.proofs.Common.{arith}
use Rattle.sha256.proofs.Digits.{ch_form}
use Rattle.sha256.proofs.ch.Goals as goal

-- `sha256::ch` meets its contract.
-- Assumes nothing.

pub returns : goal.returns
returns c = ch_form c.args.x c.args.y c.args.z (omega arith) (omega arith) (omega arith)

use Rattle.std.proofs.Common.{◌*◌, ◌%◌, ◌^◌, length}
use Rattle.sha256.specs.Sha256.{H0, sha256}
use Rattle.sha256.proofs.Padding.{whole}
use Rattle.sha256.proofs.digest.Goals as goal

pub returns : goal.returns
unfolding sha256
returns c = let m = c.args.message.now in
    cc (whole H0 m (length m * 8 % 2 ^ 64))

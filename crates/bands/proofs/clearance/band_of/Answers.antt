use Rattle.std.proofs.Common.{rules}
use Rattle.bands.proofs.Short.{short}
use Rattle.bands.proofs.clearance.band_of.Goals as goal

pub returns-clause-short : goal.returns-clause-short
returns-clause-short c = short c.args.clearance _ (search rules)

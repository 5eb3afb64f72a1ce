use Rattle.std.proofs.Common.{sym}
use Rattle.kinds.proofs.Settled.{takes}
use Rattle.kinds.proofs.kinds.KindsCounter.take.Goals as goal

pub returns : goal.returns
returns c = rw (sym c.self.view_is) (takes c.self.inside.window c.args.key c.take.result c.take.new.self c.take.ensures)

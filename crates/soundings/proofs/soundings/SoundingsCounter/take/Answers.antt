use Rattle.std.proofs.Common.{sym}
use Rattle.soundings.proofs.Taking.{takes}
use Rattle.soundings.proofs.soundings.SoundingsCounter.take.Goals as goal

pub returns : goal.returns
returns c = rw (sym c.self.view_is) (takes c.self.inside.window c.args.sounding c.take.result c.take.new.self c.take.ensures)

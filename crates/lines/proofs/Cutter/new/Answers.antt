use Rattle.lines.proofs.Cuts.{right, once}
use Rattle.lines.proofs.Cutter.new.Goals as goal

pub returns-clause-right : goal.returns-clause-right
returns-clause-right c = right

pub returns-clause-once : goal.returns-clause-once
returns-clause-once c = once

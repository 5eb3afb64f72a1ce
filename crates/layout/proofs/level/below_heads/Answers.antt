use Rattle.std.proofs.Common.{arith}
use Rattle.layout.proofs.Closed.{heads_by_level}
use Rattle.layout.proofs.level.below_heads.Goals as goal

pub overflow_sub-result : goal.overflow_sub-result
overflow_sub-result c = rw (c.power.ensures, c.slots_at.ensures) (omega (arith, heads_by_level c.args.top c.args.level c.requires.1))

pub returns : goal.returns
returns c = rw (c.power.ensures, c.slots_at.ensures) (omega (arith, heads_by_level c.args.top c.args.level c.requires.1))

use Rattle.std.proofs.Common.{arith}
use Rattle.layout.proofs.Closed.{rows_by_level}
use Rattle.layout.proofs.level.below_rows.Goals as goal

pub overflow_sub-result : goal.overflow_sub-result
overflow_sub-result c = rw (c.power.ensures, c.power-2.ensures, c.slots_at.ensures, c.rows_at.ensures) (omega (arith, rows_by_level c.args.top c.args.level c.requires.1))

pub returns : goal.returns
returns c = rw (c.power.ensures, c.power-2.ensures, c.slots_at.ensures, c.rows_at.ensures) (omega (arith, rows_by_level c.args.top c.args.level c.requires.1))

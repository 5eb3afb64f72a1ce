use Rattle.std.proofs.Common.{arith}
use Rattle.layout.proofs.Closed.{rows_by_last}
use Rattle.layout.proofs.SmallNumbers.{few_rows}
use Rattle.layout.proofs.level.scale_rows.Goals as goal

pub overflow_add-result : goal.overflow_add-result
overflow_add-result c = omega (arith, c.below_rows.ensures, c.rows_at.ensures, rows_by_last c.args.top, few_rows c.args.top c.requires)

pub returns : goal.returns
returns c = omega (arith, c.below_rows.ensures, c.rows_at.ensures, rows_by_last c.args.top)

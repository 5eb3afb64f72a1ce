use Rattle.std.proofs.Common.{arith}
use Rattle.layout.proofs.Closed.{heads_by_last}
use Rattle.layout.proofs.SmallNumbers.{few_heads}
use Rattle.layout.proofs.level.scale_heads.Goals as goal

pub overflow_add-result : goal.overflow_add-result
overflow_add-result c = omega (arith, c.below_heads.ensures, heads_by_last c.args.top, few_heads c.args.top c.requires)

pub returns : goal.returns
returns c = omega (arith, c.below_heads.ensures, heads_by_last c.args.top)

use Rattle.std.proofs.Common.{arith}
use Rattle.layout.proofs.SmallNumbers.{rows_small, heads_small}
use Rattle.layout.proofs.level.Level.of.Goals as goal

pub overflow_add-result : goal.overflow_add-result
overflow_add-result c = rw (c.scale_rows.ensures, c.below_rows.ensures) (omega (arith, rows_small c.args.top c.args.scale c.args.number c.requires))

pub overflow_add-result-2 : goal.overflow_add-result-2
overflow_add-result-2 c = rw (c.scale_heads.ensures, c.below_heads.ensures) (omega (arith, heads_small c.args.top c.args.scale c.args.number c.requires))

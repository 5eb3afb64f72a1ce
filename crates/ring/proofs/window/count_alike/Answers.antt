use Rattle.std.proofs.Common.{rules, arith}
use Rattle.std.proofs.lemmas.List.{take_all}
use Rattle.std.proofs.lemmas.Grind.{common_steps}
use Rattle.ring.proofs.Counting.{counted_few, counted_more}
use Rattle.ring.proofs.window.count_alike.Goals as goal

pub overflow_add-count : goal.overflow_add-count
overflow_add-count g c =
    let few = counted_few (λ row. g.K.Likeness.alike row.key c.args.key.now) c.args.rows.now c.loop-row.row-index c.loop-row.count c.loop-row.invariant c.is_alike.result c.loop-row-test.true in
    search rules

pub loop-row-preserved : goal.loop-row-preserved
loop-row-preserved g c =
    counted_more (λ row. g.K.Likeness.alike row.key c.args.key.now) c.args.rows.now c.loop-row.row-index c.loop-row.count c.loop-row.invariant c.row-item.result c.is_alike.result c.loop-row-test.true c.row-item.is c.is_alike.ensures

pub returns : goal.returns
returns g c = grind (arith, common_steps, c.loop-row.invariant, take_all c.loop-row.row-index c.args.rows.now c.loop-row-test.false)

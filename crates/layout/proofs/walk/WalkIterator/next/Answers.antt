use Rattle.std.proofs.Common.{◌∙◌, sym, ap, length, arith}
use Rattle.layout.proofs.Walks.{walk_step}
use Rattle.layout.proofs.walk.WalkIterator.next.Goals as goal

pub returns-clause-steps : goal.returns-clause-steps
returns-clause-steps c =
    let w = c.self.inside in
    sym c.self.view_is ∙ walk_step w.top w.scale w.end w.position c.size.result c.block_at-block.result c.if-self.false c.block_at-block.ensures.value c.size.ensures

pub returns-clause-goes : goal.returns-clause-goes
returns-clause-goes c =
    let gives = ap length (returns-clause-steps c) in
    search (arith, gives)

use Rattle.layout.proofs.SmallNumbers.{heads_small}
use Rattle.layout.proofs.level.Level.first_head.Goals as goal

pub returns-clause-small : goal.returns-clause-small
returns-clause-small c =
    let l = c.self.inside in
    let is = c.self.invariant in
    rw (← c.self.view_is, ← is.1.head) (heads_small l.top l.scale l.number is.0)

use Rattle.std.proofs.Common.{arith}
use Rattle.layout.proofs.Filling.{scale_behind}
use Rattle.layout.proofs.visits.VisitsIterator.next.Goals as goal

pub invariant_of-self-else-self-2 : goal.invariant_of-self-else-self-2
invariant_of-self-else-self-2 c =
    let v = c.self.inside in
    let left = c.self.invariant.0 in (
      record { shape = left.shape; scale = omega (arith, left.scale, c.if-self.false); level = omega arith },
      scale_behind v.top v.scale v.level _ _ left.level c.if-self-2.false c.row_behind-self-inside.ensures.value c.head_behind-self-inside.ensures.value,
    )

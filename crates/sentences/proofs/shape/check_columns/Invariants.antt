use Rattle.std.proofs.Common.{◌≡◌, ◌+◌, length}
use Rattle.sentences.specs.Shape.{fault_from, shape_fault}
use Rattle.sentences.proofs.shape.check_columns.Given as goal

-- what is left gives the same first wrong column
abbrev pub invariant-loop-column : goal.invariant-loop-column
invariant-loop-column l =
    (goal.iterator-loop-column).can_next l.column-iterator
    × (goal.iterator-loop-column).is_finite l.column-iterator
    × (l.column-iterator.a.start + length l.column-iterator.b.rest.now ≡ length l.bytes + 1)
    × (fault_from l.expect l.column-iterator.a.start l.column-iterator.b.rest.now ≡ shape_fault l.bytes)

use Rattle.std.proofs.Common.{◌+◌, ◌-◌, sym, arith}
use Rattle.layout.specs.Inside.{IsShape}
use Rattle.layout.proofs.Filling.{heads_end, rows_end}
use Rattle.layout.proofs.layout.Layout.of.Goals as goal

pub invariant_of-result : goal.invariant_of-result
invariant_of-result c =
    let top = c.accuracy-top.result + 3 in
    let scales = c.span.result + 1 - top in
    let accuracy = c.accuracy-top.ensures.range in
    let span = c.span.ensures.range in
    let shape : IsShape top scales = record { lowest = omega (arith, accuracy); highest = omega (arith, accuracy); some = omega (arith, c.accuracy-top.ensures.value, span); few = omega (arith, c.accuracy-top.ensures.value, span) } in (
      shape,
      record {
        rows = rw (c.row_behind.ensures.value, c.last_level-last.ensures) (sym (rows_end top scales shape.some));
        heads = rw (c.head_behind.ensures.value, c.last_level-last.ensures) (sym (heads_end top scales shape.some));
      },
    )

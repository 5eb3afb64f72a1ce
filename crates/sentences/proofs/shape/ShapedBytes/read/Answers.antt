use Rattle.std.proofs.Common.{◌≡◌, None, arith}
use Rattle.std.proofs.lemmas.Grind.{common_steps}
use Rattle.sentences.specs.Shape.{shape_fault}
use Rattle.sentences.proofs.Faults.{shape_lengths}
use Rattle.sentences.proofs.shape.ShapedBytes.read.Goals as goal

pub invariant_of-result : goal.invariant_of-result
invariant_of-result c =
    let right : shape_fault c.args.bytes.now ≡ None = grind (arith, common_steps) in
    shape_lengths c.args.bytes.now right

use Rattle.std.proofs.Common.{◌≡◌, true, None, arith}
use Rattle.std.proofs.lemmas.Grind.{common_steps}
use Rattle.sentences.specs.Reader.{sum_right}
use Rattle.sentences.specs.Shape.{shape_fault}
use Rattle.sentences.proofs.Readings.{reading_of_parts}
use Rattle.sentences.proofs.reader.parse_depth.Goals as goal

pub returns : goal.returns
returns c =
    let shape : shape_fault c.args.bytes.now ≡ None = grind (arith, common_steps) in
    let sum : sum_right c.args.bytes.now ≡ true = grind (arith, common_steps) in
    let right = reading_of_parts c.args.bytes.now shape sum in
    grind (arith, common_steps)

use Rattle.std.proofs.Common.{◌≡◌, get_or, arith}
use Rattle.std.proofs.lemmas.Grind.{common_steps}
use Rattle.std.proofs.lemmas.Bool.Decides.{nat_tests}
use Rattle.tally.proofs.Changes.{fallen_more}
use Rattle.tally.proofs.Over.{over_more, over_read}
use Rattle.tally.proofs.steps.settle.Goals as goal
use Rattle.tally.proofs.steps.settle.Goals.{in-Some, in_default}

pub loop-i-preserved : goal.loop-i-preserved
loop-i-preserved g c =
    let xs = c.args.rows.now in
    let x = c.index-rows-i.result in
    let read : x ≡ get_or xs c.loop-i.i x = grind (arith, over_read) in
    let more = fallen_more xs c.loop-i.i x (omega arith) read in
    elim c.match-after_fall.branch [
      | in-Some w ↦ record { front = grind (arith, nat_tests, common_steps, over_more); long = grind (arith, nat_tests, common_steps); behind = omega arith }
      | in_default w ↦ record { front = grind (arith, nat_tests, common_steps); long = grind (arith, nat_tests, common_steps); behind = omega arith }
    ]

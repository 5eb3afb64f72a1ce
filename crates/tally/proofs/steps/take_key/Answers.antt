use Rattle.std.proofs.Common.{arith}
use Rattle.std.proofs.lemmas.Bool.Decides.{nat_tests}
use Rattle.tally.proofs.Stepping.{risen_over}
use Rattle.tally.proofs.steps.take_key.Goals as goal

pub returns-in-Some-clause-rows : goal.returns-in-Some-clause-rows
returns-in-Some-clause-rows g c =
    let risen = risen_over g.K.Likeness.alike c.args.rows.now c.in_use-used.result c.in-Some.place c.args.key c.index-rows-place.result in
    grind (arith, nat_tests)

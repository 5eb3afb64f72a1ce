use Rattle.std.proofs.Common.{rules, subst}
use Rattle.tally.specs.Laws.{Tells}
use Rattle.tally.specs.Slots.{room}
use Rattle.tally.proofs.Tellings.{run_tells}
use Rattle.tally.proofs.tally.tally_of.Goals as goal

pub returns-clause-tells : goal.returns-clause-tells
returns-clause-tells g c small =
    let alike = g.K.Likeness.alike in
    let most = room c.args.rows.now in
    let keys = c.args.keys.now in
    subst (Tells alike most keys) (search rules) (run_tells alike g.met.K.Likeness.symmetric g.met.K.Likeness.transitive most keys small)

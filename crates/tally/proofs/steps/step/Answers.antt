use Rattle.std.proofs.Common.{[], ◌∷◌, ◌++◌, sym, subst, arith}
use Rattle.tally.specs.Laws.{Tells}
use Rattle.tally.specs.Slots.{held, room}
use Rattle.tally.proofs.Stepping.{held_stepped}
use Rattle.tally.proofs.Tellings.{step_tells}
use Rattle.tally.proofs.steps.step.Goals as goal

pub returns-clause-tells : goal.returns-clause-tells
returns-clause-tells g c keys small told =
    let alike = g.K.Likeness.alike in
    let rows = c.args.rows.now in
    let head = c.args.head in
    let key = c.args.key in
    subst (Tells alike (room rows) (keys ++ key ∷ []))
    (sym (held_stepped alike rows c.take_key.new.rows head c.take_key.result key c.take_key.ensures.rows c.take_key.ensures.head))
    (step_tells alike g.met.K.Likeness.symmetric g.met.K.Likeness.transitive (room rows) keys (held rows head) key (omega arith) told)

use Rattle.ladder.proofs.Moves.{stored_puts, stored_steps}
use Rattle.ladder.proofs.keeping.LadderKeeper.put.Goals as goal

pub returns-clause-keeper : goal.returns-clause-keeper
returns-clause-keeper g c =
    stored_puts g.K.Likeness.alike c.args.self.now c.store.new.self c.store.result c.args.rows.now c.store.new.rows c.args.heads.now c.store.new.heads c.args.key
    c.store.ensures.answer c.store.ensures.tells c.store.ensures.tables

pub returns-clause-slots : goal.returns-clause-slots
returns-clause-slots g c =
    stored_steps g.K.Likeness.alike c.args.self.now c.store.new.self c.store.result c.args.rows.now c.store.new.rows c.args.heads.now c.store.new.heads c.args.key
    c.store.ensures.answer c.store.ensures.tells c.store.ensures.tables

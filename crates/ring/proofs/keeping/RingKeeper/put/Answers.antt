use Rattle.ring.proofs.Moves.{stored_puts}
use Rattle.ring.proofs.keeping.RingKeeper.put.Goals as goal

pub returns-clause-keeper : goal.returns-clause-keeper
returns-clause-keeper g c =
    stored_puts c.args.self.now c.store.new.self c.store.result c.args.rows.now c.store.new.rows c.args.heads.now c.args.key c.store.ensures.answer c.store.ensures.tells c.store.ensures.rows

use Rattle.ring.proofs.Moves.{forgot_drops}
use Rattle.ring.proofs.keeping.RingKeeper.drop_oldest.Goals as goal

pub returns : goal.returns
returns g c = forgot_drops c.args.self.now c.forget.new.self c.forget.result c.forget.ensures.answer c.forget.ensures.tells

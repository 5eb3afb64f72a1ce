use Rattle.likeness.proofs.Counting.{stands_any}
use Rattle.likeness.proofs.counts.stands_in.Goals as goal

pub returns : goal.returns
returns g c = stands_any g.K.Likeness.alike c.args.window.now c.args.key.now _ c.any_alike.ensures

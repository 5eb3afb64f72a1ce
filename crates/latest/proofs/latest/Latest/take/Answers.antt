use Rattle.std.proofs.Common.{sym}
use Rattle.latest.proofs.Moves.{moved_ok, moved_err}
use Rattle.latest.proofs.latest.Latest.take.Goals as goal

pub returns-in-Ok : goal.returns-in-Ok
returns-in-Ok g c = rw (sym c.self.view_is) (moved_ok g.P.Record.figures g.P.Keeper.holds g.P.Record.need c.args.rows.now c.put.new.rows c.args.heads.now c.put.new.heads c.args.key c.self.inside.state c.put.new.self _ c.self.invariant c.in-Ok.ensures c.turned.ensures.same)

pub returns-in-Err : goal.returns-in-Err
returns-in-Err g c = rw (sym c.self.view_is) (moved_err g.P.Record.figures g.P.Keeper.holds g.P.Record.need c.args.rows.now c.put.new.rows c.args.heads.now c.put.new.heads c.args.key c.self.inside.state c.put.new.self c.in-Err.refusal c.self.invariant c.in-Err.ensures)

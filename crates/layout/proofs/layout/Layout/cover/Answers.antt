use Rattle.layout.proofs.CoverLaws.{cover_left, cover_right, cover_near}
use Rattle.layout.proofs.layout.Layout.cover.Goals as goal

pub returns-clause-ignored : goal.returns-clause-ignored
returns-clause-ignored c =
    let found = c.edges-found.ensures in
    cover_left c.args.self.now c.args.arrivals c.args.window _ _ _ found.shape found.scale found.start found.end

pub returns-clause-right : goal.returns-clause-right
returns-clause-right c =
    let found = c.edges-found.ensures in
    rw found.top (cover_right c.args.self.now c.args.arrivals c.args.window _ _ _ found.shape found.scale found.start found.end)

pub returns-clause-near : goal.returns-clause-near
returns-clause-near c =
    let found = c.edges-found.ensures in
    rw found.top (cover_near c.args.self.now c.args.arrivals c.args.window _ _ _ found.shape found.scale found.start found.end)

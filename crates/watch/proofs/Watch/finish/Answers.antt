use Rattle.lines.proofs.Cuts.{right}
use Rattle.watch.proofs.Reports.{fed_report, fed_rest}
use Rattle.watch.proofs.Watch.finish.Goals as goal

pub returns-clause-report : goal.returns-clause-report
returns-clause-report g c input said fed = fed_report g.C.Counter.reading g.met.C.Counter.decided g.C.Counter.ending g.C.Counter.holds c.args.self input said fed

pub returns-clause-rest : goal.returns-clause-rest
returns-clause-rest g c input said more fed = fed_rest g.C.Counter.reading g.met.C.Counter.decided g.C.Counter.ending g.C.Counter.holds c.args.self input said fed more

pub returns-clause-cut : goal.returns-clause-cut
returns-clause-cut g c = right

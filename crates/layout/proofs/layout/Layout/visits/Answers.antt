use Rattle.std.proofs.Common.{ap, ◌∙◌}
use Rattle.layout.specs.Blocks.{visits_of}
use Rattle.layout.proofs.BlocksOfArrivals.{visits_all, visits_begin, visits_right}
use Rattle.layout.proofs.layout.Layout.visits.Goals as goal

pub returns-clause-value : goal.returns-clause-value
returns-clause-value c = let l = c.self.inside in visits_begin l.top c.args.arrival l.scales ∙ ap (λ s. visits_of s c.args.arrival) c.self.view_is

pub returns-clause-right : goal.returns-clause-right
returns-clause-right c = rw (returns-clause-value c) (visits_right c.args.self.now c.args.arrival)

pub returns-clause-all : goal.returns-clause-all
returns-clause-all c = rw (returns-clause-value c) (visits_all c.args.self.now c.args.arrival)

use Rattle.std.proofs.Common.{map, take}
use Rattle.traces.specs.Model.{told_as}
use Rattle.traces.specs.Stages.{terms_of}
use Rattle.traces.proofs.Whole.{TraceSoFar}
use Rattle.traces.proofs.run.run_trace.Given as goal

abbrev pub invariant-loop-call : goal.invariant-loop-call
invariant-loop-call g l =
    TraceSoFar g.P.Record.figures g.P.Keeper.holds g.P.Record.need g.K.Likeness.alike g.P.Keeper.bracket g.P.Keeper.listing
    (terms_of g.P.Record.need l.fn.setting.accuracy l.fn.setting.span l.initial.rows l.initial.heads) l.initial.rows l.initial.heads l.initial.list
    (take l.call-index l.calls) (map (told_as (λ entries. entries.items)) l.answers.items)
    (record { stage = l.stage; rows = l.rows; heads = l.heads; list = l.list })

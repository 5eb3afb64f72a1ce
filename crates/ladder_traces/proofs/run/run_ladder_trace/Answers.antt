use Rattle.std.proofs.lemmas.Result.{IfOk-weaker}
use Rattle.ladder_traces.proofs.Following.{runs_exactly}
use Rattle.ladder_traces.proofs.run.run_ladder_trace.Goals as goal

pub returns-clause-exactly : goal.returns-clause-exactly
returns-clause-exactly g c =
    IfOk-weaker c.run_trace.result _ _
    (λ trace runs. runs_exactly g.K.Likeness.alike c.args.setting.accuracy c.args.setting.span c.args.calls.now c.args.rows.now c.run_trace.new.rows c.args.heads.now c.run_trace.new.heads c.args.list.now c.run_trace.new.list trace runs)
    c.run_trace.ensures

use Rattle.std.proofs.lemmas.Result.{IfOk-weaker}
use Rattle.ladder_traces.proofs.Following.{sounding_runs_exactly}
use Rattle.ladder_traces.proofs.soundings.run_sounding_ladder_trace.Goals as goal

pub returns-clause-exactly : goal.returns-clause-exactly
returns-clause-exactly c =
    IfOk-weaker c.run_sounding_trace.result _ _
    (λ trace runs. sounding_runs_exactly c.args.setting.accuracy c.args.setting.span c.args.calls.now c.args.rows.now c.run_sounding_trace.new.rows c.args.heads.now c.run_sounding_trace.new.heads c.args.list.now c.run_sounding_trace.new.list trace runs)
    c.run_sounding_trace.ensures

use Rattle.traces.specs.declared.stage.Stage.TheVariants.{Filling}
use Rattle.traces.proofs.Listed.{steps_list}
use Rattle.traces.proofs.steps.at_filling.Goals as goal

pub returns-in-List : goal.returns-in-List
returns-in-List g c =
    rw c.in-List.is
    (rw c.listed.ensures
    (steps_list g.P.Record.figures g.P.Keeper.holds g.P.Record.need g.K.Likeness.alike g.P.Keeper.bracket g.P.Keeper.listing (Filling c.args.window) _ _ _ _ _ _ c.list-outcome.ensures))

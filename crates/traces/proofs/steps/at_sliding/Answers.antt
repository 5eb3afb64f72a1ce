use Rattle.traces.specs.declared.stage.Stage.TheVariants.{Sliding}
use Rattle.traces.proofs.Listed.{steps_list}
use Rattle.traces.proofs.Slid.{steps_slide}
use Rattle.traces.proofs.steps.at_sliding.Goals as goal

pub returns-in-List : goal.returns-in-List
returns-in-List g c =
    rw c.in-List.is
    (rw c.listed.ensures
    (steps_list g.P.Record.figures g.P.Keeper.holds g.P.Record.need g.K.Likeness.alike g.P.Keeper.bracket g.P.Keeper.listing (Sliding c.args.window) _ _ _ _ _ _ c.list-outcome.ensures))

pub returns-in-Slide : goal.returns-in-Slide
returns-in-Slide g c =
    rw c.in-Slide.is
    (rw c.done.ensures
    (steps_slide g.P.Record.figures g.P.Keeper.holds g.P.Record.need g.K.Likeness.alike g.P.Keeper.bracket g.P.Keeper.listing c.args.window c.slide-outcome.new.self _ c.slide-outcome.new.rows _ c.slide-outcome.new.heads _ _ _
    c.slide-outcome.ensures c.slide-outcome.auto.rows c.slide-outcome.auto.heads))

use Rattle.std.proofs.Common.{◌∙◌, ◌*◌, sym, ap, subst}
use Rattle.layout.specs.Laws.{FillRows}
use Rattle.layout.specs.Slots.{all_rows}
use Rattle.layout.proofs.Closed.{rows_of_scale}
use Rattle.layout.proofs.SmallNumbers.{shape_rows}
use Rattle.layout.proofs.SlotsOfBlocks.{rows_filled}
use Rattle.layout.proofs.layout.Layout.rows.Goals as goal

pub returns-clause-value : goal.returns-clause-value
returns-clause-value c = sym c.self.invariant.1.rows ∙ ap all_rows c.self.view_is

pub returns-clause-sum : goal.returns-clause-sum
returns-clause-sum c = let shape = c.args.self.now in returns-clause-value c ∙ ap (λ n. shape.scales * n) (sym (rows_of_scale shape.top))

pub returns-clause-few : goal.returns-clause-few
returns-clause-few c = let l = c.self.inside in rw (← c.self.invariant.1.rows) (shape_rows l.top l.scales c.self.invariant.0)

pub returns-clause-filled : goal.returns-clause-filled
returns-clause-filled c = let shape = c.args.self.now in subst (FillRows shape) (sym (returns-clause-value c)) (rows_filled shape)

use Rattle.std.proofs.Common.{◌∙◌, ◌≤◌, sym, ap, subst, arith}
use Rattle.layout.specs.Covers.{scale_of}
use Rattle.layout.specs.Laws.{longest}
use Rattle.layout.proofs.Scales.{scale_by_digits, scale_right}
use Rattle.layout.proofs.layout.Layout.scale_of.Goals as goal

pub returns-clause-value : goal.returns-clause-value
returns-clause-value c =
    let shape = c.self.inside in
    sym (scale_by_digits shape.top c.args.window shape.scales c.digits.result c.min.result c.digits.ensures (omega arith) (omega arith))
    ∙ ap (λ s. scale_of s c.args.window) c.self.view_is

pub returns-clause-right : goal.returns-clause-right
returns-clause-right c short = rw (returns-clause-value c, ← c.self.view_is) (scale_right _ c.args.window c.self.invariant.0.some (subst (λ s. c.args.window ≤ longest s) (sym c.self.view_is) short))

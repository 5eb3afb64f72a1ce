use Rattle.std.proofs.Common.{◌++◌, string_bytes, length, append_assoc, sym, ap, ◌∙◌}
use Rattle.std.proofs.lemmas.Result.{IfOk-weaker}
use Rattle.latest.specs.Latest.{latest}
use Rattle.soundings.specs.Printed.{readings_text}
use Rattle.soundings.specs.Soundings.{classes_text, most_soundings}
use Rattle.soundings.proofs.Judging.{judges_right, size_is}
use Rattle.soundings.proofs.soundings.SoundingsCounter.print_end.Goals as goal

pub returns-in_err-print_size-clause-right : goal.returns-in_err-print_size-clause-right
returns-in_err-print_size-clause-right c soundings right = judges_right c.self.inside.window c.self.invariant soundings (rw (sym c.self.view_is) at right)

pub returns-clause-right : goal.returns-clause-right
returns-clause-right c soundings right = judges_right c.self.inside.window c.self.invariant soundings (rw (sym c.self.view_is) at right)

pub returns-clause-printed : goal.returns-clause-printed
returns-clause-printed c soundings right =
    let size = c.size.ensures.value ∙ size_is c.self.inside.window c.self.invariant soundings (rw (sym c.self.view_is) at right) in
    let told = c.in_ok-print_size.ensures ∙ ap (λ n. string_bytes c.args.out.now ++ readings_text n) size in
    IfOk-weaker c.print_classes.result _ _ (λ done is. is ∙ ap (λ t. t ++ classes_text soundings) told ∙ append_assoc (string_bytes c.args.out.now) (readings_text (length (latest most_soundings soundings))) (classes_text soundings)) (c.print_classes.ensures soundings right)

use Rattle.std.proofs.Common.{rules, ◌≡◌, ◌≤◌, ◌-◌, ℕ, List, ◌++◌, take, string_bytes, ap, ◌∙◌}
use Rattle.std.specs.List.{flat_map}
use Rattle.soundings.specs.Printed.{class_text}
use Rattle.soundings.specs.Soundings.{classes, judgement_on}
use Rattle.soundings.proofs.Lines.{lines_more}
use Rattle.soundings.proofs.soundings.Soundings.print_classes.Goals as goal

pub loop-class-preserved : goal.loop-class-preserved
loop-class-preserved c =
    let h = c.loop-class.invariant in
    let class = c.loop-class.class in
    let last : class ≤ 6 = search rules in
    let before = string_bytes c.args.out.now in
    record {
      first = search rules;
      last = search rules;
      text = λ soundings right.
          let line : ℕ → List ℕ = λ k. class_text k (judgement_on soundings k) in
          c.in_ok-print_class.ensures
          ∙ ap (λ j. string_bytes c.loop-class.out ++ class_text class j) (c.judgement.ensures soundings right)
          ∙ ap (λ t. t ++ line class) (h.text soundings right)
          ∙ lines_more line before class h.first last;
    }

pub returns : goal.returns
returns c soundings right =
    let line : ℕ → List ℕ = λ k. class_text k (judgement_on soundings k) in
    let all : c.loop-class.class - 1 ≡ 6 = search rules in
    c.loop-class.invariant.text soundings right ∙ ap (λ n. string_bytes c.args.out.now ++ flat_map line (take n classes)) all

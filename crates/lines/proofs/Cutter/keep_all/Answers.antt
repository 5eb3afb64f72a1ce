use Rattle.std.proofs.Common.{◌∙◌, ap, arith}
use Rattle.std.proofs.lemmas.Grind.{common_steps}
use Rattle.lines.specs.Kept.{keep_bytes}
use Rattle.lines.proofs.Keeps.{keep_bytes_front, keep_bytes_take}
use Rattle.lines.proofs.Cutter.keep_all.Goals as goal

kept : goal.returns-clause-kept
kept c = grind (arith, common_steps, keep_bytes_front c.args.self.now c.args.bytes.now)

pub returns-clause-kept : goal.returns-clause-kept
returns-clause-kept = kept

pub returns-clause-after : goal.returns-clause-after
returns-clause-after c raw after = kept c ∙ ap (λ bytes. keep_bytes bytes c.args.bytes.now) after ∙ keep_bytes_take raw c.args.bytes.now

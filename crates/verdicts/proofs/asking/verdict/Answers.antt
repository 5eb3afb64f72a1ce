use Rattle.std.proofs.Common.{rules, ◌≡◌, ◌≤◌, ℕ, length, arith}
use Rattle.std.proofs.lemmas.Bool.Decides.{nat_tests}
use Rattle.likeness.specs.Counts.{truly_short}
use Rattle.verdicts.specs.Verdicts.{judged, sums_below}
use Rattle.verdicts.proofs.Judging.{right}
use Rattle.verdicts.proofs.asking.verdict.Goals as goal

pub returns-clause-judged : goal.returns-clause-judged
returns-clause-judged g c = record {
  answer = grind (arith, nat_tests);
  right = λ j given past window held.
      let accuracy = (g.P.Record.figures c.args.keeper.now).accuracy in
      let sums = sums_below (g.P.Keeper.bracket c.args.keeper.now c.args.rows.now c.args.heads.now) c.args.sounder c.args.class in
      let some : 1 ≤ c.args.class = search (rules, nat_tests) in
      let added : ◌≡◌ {A = ℕ × ℕ} (c.in_ok-floors.floors, c.in_ok-floors.ceilings) sums = grind arith in
      let said : j ≡ judged (length window) sums = grind arith in
      rw said (right accuracy (length window) (truly_short window c.args.sounder c.args.class) c.args.class sums some (c.in_ok-floors.ensures.right past window held));
}

use Rattle.std.proofs.Common.{rules, ◌≡◌, ℕ, ◌+◌, length, Ok, refl, sym, ap, ◌∙◌, subst}
use Rattle.likeness.specs.Agree.{same_sounding}
use Rattle.likeness.specs.Counts.{true_count, truly_short}
use Rattle.likeness.specs.declared.sounding.SoundingKey.{SoundingKey}
use Rattle.keeper.specs.Rules.{Bracket}
use Rattle.verdicts.specs.Rules.{Sums}
use Rattle.verdicts.specs.Verdicts.{added}
use Rattle.verdicts.proofs.Adding.{below_more, short_sums_more, short_sums_none}
use Rattle.verdicts.proofs.asking.sum_below.Goals as goal

pub loop-number-init : goal.loop-number-init
loop-number-init g c = record {
  reached = search rules;
  floors = search rules;
  ceilings = search rules;
  value = refl;
  right = λ past window held. short_sums_none _ (length window) window c.args.sounder;
}

pub loop-number-preserved : goal.loop-number-preserved
loop-number-preserved g c =
    let h = c.loop-number.invariant in
    let accuracy = (g.P.Record.figures c.args.keeper.now).accuracy in
    let bracket = g.P.Keeper.bracket c.args.keeper.now c.args.rows.now c.args.heads.now in
    let number = c.loop-number.number in
    let key : ℕ → SoundingKey = λ band. record { sounder = c.args.sounder; band = band } in
    let same : c.unwrap-band.result ≡ number = search rules in
    let found : Ok (c.in_ok-floor.floor, c.in_ok-floor.ceiling) ≡ Ok (bracket (key c.unwrap-band.result)) = rw c.requires.lent at (sym c.in_ok-floor.was ∙ c.count.ensures.answer) in
    let told : ◌≡◌ {A = ℕ × ℕ} (c.in_ok-floor.floor, c.in_ok-floor.ceiling) (bracket (key c.unwrap-band.result)) = cc in
    let one : ◌≡◌ {A = ℕ × ℕ} (c.in_ok-floor.floor, c.in_ok-floor.ceiling) (bracket (key number)) = told ∙ ap (λ band. bracket (key band)) same in
    let both : added (c.loop-number.floors, c.loop-number.ceilings) (bracket (key number)) ≡ (c.loop-number.floors + c.from-floors.result, c.loop-number.ceilings + c.from-ceilings.result) =
    rw (sym one) (rw c.from-floors.ensures (rw c.from-ceilings.ensures refl)) in
    record {
      reached = search rules;
      floors = search rules;
      ceilings = search rules;
      value = sym both ∙ ap (λ sums. added sums (bracket (key number))) h.value ∙ sym (below_more bracket c.args.sounder number);
      right = λ past window held.
          subst (Sums accuracy (length window) (truly_short window c.args.sounder (number + 1)) (number + 1)) both
          (short_sums_more accuracy (length window) window c.args.sounder number (c.loop-number.floors, c.loop-number.ceilings) (bracket (key number)) (h.right past window held)
          (subst (λ band. Bracket accuracy (length window) (true_count same_sounding window (key band)) (bracket (key band))) same
          (c.in_ok-floor.ensures.right past window held)));
    }

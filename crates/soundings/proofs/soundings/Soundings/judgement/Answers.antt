use Rattle.std.proofs.Common.{◌≡◌, Ok, sym, ◌∙◌}
use Rattle.likeness.specs.Agree.{same_sounding}
use Rattle.ladder.specs.Ladders.{bracket}
use Rattle.verdicts.specs.Verdicts.{judged, sums_below}
use Rattle.soundings.specs.Soundings.{berth_sounder}
use Rattle.soundings.proofs.Judging.{judgement_is}
use Rattle.soundings.proofs.soundings.Soundings.judgement.Goals as goal

pub returns : goal.returns
returns c soundings right =
    let window = c.self.inside.window in
    let said = judged window.window.keeper.size (sums_below (bracket same_sounding window.window.keeper window.rows window.heads) berth_sounder c.args.class) in
    let given : Ok c.unwrap.result ≡ Ok said = rw c.requires.there at (sym c.unwrap.ensures ∙ c.verdict.ensures.answer) in
    let same : c.unwrap.result ≡ said = cc in
    same ∙ judgement_is window c.self.invariant soundings (rw (sym c.self.view_is) at right) c.args.class

-- No sounding is refused: 2^30 are more than a million. Assumes nothing.
use Rattle.std.proofs.Common.{◌≡◌, ◌<◌, true, [], is_ok, Result, ap, arith}
use Rattle.likeness.specs.Agree.{same_sounding}
use Rattle.likeness.specs.declared.sounding.SoundingKey.{SoundingKey}
use Rattle.keeper.specs.Figures.{Figures}
use Rattle.keeper.specs.declared.refusal.Refusal.{Refusal}
use Rattle.ladder.specs.Truth.{HoldsWindow}
use Rattle.latest.specs.WithTables.{InTables, TakenIn}
use Rattle.latest.proofs.InTables.{accepts}
use Rattle.watch.specs.Counters.{Takes}
use Rattle.watch.specs.Report.{most_lines}
use Rattle.soundings.specs.Soundings.{IsRightFor, key_of}

pub takes : (window : InTables SoundingKey Figures) (key : SoundingKey) (r : Result (Unit {0}) Refusal) (after : InTables SoundingKey Figures)
    → TakenIn (λ s. s) (HoldsWindow same_sounding) window key r after → Takes key_of (λ w. w.window.keeper.puts) IsRightFor window key after
takes window key r after taken =
    let accepted : window.window.keeper.puts < most_lines → is_ok r ≡ true = λ few. accepts window.window.keeper r taken.answer (omega (arith, few)) in
    record {
      counts = λ few. ap (λ f. f.puts) (taken.tells (accepted few));
      holds_more = λ few text soundings read right. taken.takes (accepted few) [] soundings right;
    }

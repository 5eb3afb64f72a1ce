use Rattle.std.proofs.Common.{◌≡◌, ◌≤◌, ◌-◌, List, ◌++◌, take, string_bytes}
use Rattle.std.specs.List.{flat_map}
use Rattle.likeness.specs.declared.sounding.SoundingKey.{SoundingKey}
use Rattle.soundings.specs.Printed.{class_text}
use Rattle.soundings.specs.Soundings.{classes, IsRightFor, judgement_on}
use Rattle.soundings.proofs.soundings.Soundings.print_classes.Given as goal

-- The lines of the classes that have been gone through.
abbrev pub invariant-loop-class : goal.invariant-loop-class
invariant-loop-class l = record {
  first : 1 ≤ l.class;
  last : l.class ≤ 7;
  text : (soundings : List SoundingKey) → IsRightFor l.self soundings
      → string_bytes l.out ≡ string_bytes l.initial.out ++ flat_map (λ class. class_text class (judgement_on soundings class)) (take (l.class - 1) classes);
}

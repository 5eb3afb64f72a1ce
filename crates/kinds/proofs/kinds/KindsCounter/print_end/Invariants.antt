use Rattle.std.proofs.Common.{◌≡◌, List, ◌++◌, take, string_bytes}
use Rattle.std.specs.List.{flat_map}
use Rattle.likeness.specs.declared.address.AddressKey.{AddressKey}
use Rattle.kinds.specs.Kinds.{IsRightFor}
use Rattle.kinds.specs.Printed.{kind_text}
use Rattle.kinds.proofs.kinds.KindsCounter.print_end.Given as goal

abbrev pub invariant-loop-entry : goal.invariant-loop-entry
invariant-loop-entry l = (values : List AddressKey) → IsRightFor l.self values → string_bytes l.out ≡ string_bytes l.initial.out ++ flat_map kind_text (take l.entry-index l.entry-items)

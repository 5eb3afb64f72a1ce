-- The line that is printed of a kind. It has its LF, 10.
use Rattle.std.specs.Prelude.{ℕ, List, [], ◌∷◌, ◌++◌, codes, decimal}
use Rattle.likeness.specs.Agree.{kind_of}
use Rattle.likeness.specs.declared.address.AddressKey.{AddressKey}
use Rattle.keeper.specs.declared.entry.Entry.{Entry}

-- `kind {kind} {floor} {ceiling}`
abbrev pub kind_text : Entry AddressKey → List ℕ
kind_text entry = codes "kind " ++ (kind_of entry.key.bytes ++ (codes " " ++ (decimal entry.floor ++ (codes " " ++ (decimal entry.ceiling ++ (10 ∷ []))))))

-- Looking back through rows finds what looking forth does. Assumes nothing.
use Rattle.std.proofs.Common.{◌≡◌, Bool, List, reverse, sym}
use Rattle.std.specs.List.{list_any}
use Rattle.std.proofs.lemmas.List.Sorted.{list_any-IsPermutation, IsPermutation-reverse}

pub any_reverse : {X : Type 0} (test : X → Bool) (xs : List X) → list_any test (reverse xs) ≡ list_any test xs
any_reverse test xs = sym (list_any-IsPermutation test xs (reverse xs) (IsPermutation-reverse xs))

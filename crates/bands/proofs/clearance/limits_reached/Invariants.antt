-- So many of the limits so far are reached.
use Rattle.std.proofs.Common.{◌≡◌, ◌≤◌, take, count_by, to_z, of_z, w32}
use Rattle.std.specs.Prelude.{int_le}
use Rattle.bands.proofs.clearance.limits_reached.Given as goal

abbrev pub invariant-loop-least : goal.invariant-loop-least
invariant-loop-least l =
    (l.count ≤ l.least-index)
    × (l.count ≡ count_by (λ least. int_le (to_z w32 (of_z w32 least)) l.clearance) (take l.least-index l.least-items))

use Rattle.std.proofs.Common.{◌≡◌, count_by, take}
use Rattle.ring.proofs.window.count_alike.Given as goal

-- the alike rows so far are counted
abbrev pub invariant-loop-row : goal.invariant-loop-row
invariant-loop-row g l = l.count ≡ count_by (λ row. g.K.Likeness.alike row.key l.fn.key) (take l.row-index l.rows)

-- How wide brackets are, and which of two is the wider for its window. Assumes nothing.
use Rattle.std.specs.Prelude.{◌-◌, ◌*◌, if◌then◌else◌, nat_lt}
use Rattle.crosscheck.specs.declared.counted.Counted.{Counted}
use Rattle.crosscheck.specs.declared.gap.Gap.{Gap}

-- the ladder's bracket of a key
abbrev pub gap_of : Counted → Gap
gap_of c = record { width = c.bracket.1 - c.bracket.0; size = c.size }

-- the one that is more of its window, and the first where both are as much
abbrev pub wider : Gap → Gap → Gap
wider g h = if nat_lt (g.width * h.size) (h.width * g.size) then h else g

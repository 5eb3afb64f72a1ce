-- What a ring is made of. Assumes nothing.
use Rattle.keeper.specs.Figures.{Figures}
use Rattle.ring.specs.declared.figures.Ring.TheInside.{Inside}

-- its figures are the setting's and its own two
abbrev pub figures_in : Inside → Figures
figures_in r = record { accuracy = r.setting.accuracy; span = r.setting.span; puts = r.puts; size = r.size }

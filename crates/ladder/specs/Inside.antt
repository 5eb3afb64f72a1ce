-- What a ladder is made of. Assumes nothing.
use Rattle.std.specs.Prelude.{◌≡◌}
use Rattle.keeper.specs.Figures.{Figures, InRange}
use Rattle.layout.specs.Inside.{IsShape}
use Rattle.layout.specs.Slots.{shape_of}
use Rattle.ladder.specs.declared.figures.Ladder.TheInside.{Inside}

-- its figures are the setting's and its own two
abbrev pub figures_in : Inside → Figures
figures_in l = record { accuracy = l.setting.accuracy; span = l.setting.span; puts = l.puts; size = l.size }

-- its figures are in range, and the layout is the setting's
pub record IsInRange (l : Inside) : Type 0 where
  pub figures : InRange (figures_in l)
  pub shape : l.layout ≡ shape_of l.setting.accuracy l.setting.span
  pub levels : IsShape l.layout.top l.layout.scales

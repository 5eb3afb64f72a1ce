-- The numbers of a keeper. Assumes nothing.
use Rattle.std.specs.Prelude.{ℕ, ◌+◌, ◌-◌, ◌^◌, ◌≤◌}

-- what every keeper tells of itself: its accuracy and span, the puts that it has accepted, and the keys in its window now
pub record Figures : Type 0 where
  pub accuracy : ℕ
  pub span : ℕ
  pub puts : ℕ
  pub size : ℕ

-- 2^30 puts are accepted, and no more
abbrev pub most_puts : ℕ
most_puts = 1073741824

-- as it is made
abbrev pub newly : ℕ → ℕ → Figures
newly a k = record { accuracy = a; span = k; puts = 0; size = 0 }

-- after a put that was accepted
abbrev pub grown : Figures → Figures
grown f = record { accuracy = f.accuracy; span = f.span; puts = f.puts + 1; size = f.size + 1 }

-- after a drop that was accepted
abbrev pub shrunk : Figures → Figures
shrunk f = record { accuracy = f.accuracy; span = f.span; puts = f.puts; size = f.size - 1 }

-- the window is no longer than what came, nor than the span allows
pub record InRange (f : Figures) : Type 0 where
  pub came : f.size ≤ f.puts
  pub counted : f.puts ≤ most_puts
  pub stored : f.size ≤ 2 ^ f.span

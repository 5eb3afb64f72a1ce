-- How much of an input is read. Assumes nothing.
use Rattle.std.specs.Prelude.{◌≡◌, ℕ, ◌<◌, ◌≤◌, List, ◌++◌, length}
use Rattle.watch.specs.Progress.{start, take_bytes}
use Rattle.watch.specs.Report.{most_lines}

-- How many bytes are read at once.
abbrev pub most_bytes : ℕ
most_bytes = 65536

-- Of an input so much is left because no more was needed: when the last piece was read, not all lines that are treated had come.
pub record ReadAsNeeded (bytes rest : List ℕ) : Type 0 where
  pub before : List ℕ
  pub last : List ℕ
  pub whole : bytes ≡ before ++ (last ++ rest)
  pub needed : (take_bytes start before).lines < most_lines
  pub short : length last ≤ most_bytes

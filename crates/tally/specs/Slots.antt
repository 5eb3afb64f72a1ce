-- How a tally lies in a slot: a part of a row table, and a head. Rows and head may hold anything. Assumes nothing.
use Rattle.std.specs.Prelude.{ℕ, min, Bool, List, ◌++◌, length, take, drop}
use Rattle.tally.specs.declared.rows.Row.{Row}
use Rattle.tally.specs.declared.rows.Head.{Head}
use Rattle.tally.specs.Steps.{Summary, step}

-- how many rows of a slot can be used: `used` has 32 bits, so a longer slot is read as its first 4,294,967,295 rows
abbrev pub room : {X : Type 0} → List X → ℕ
room slot = min (length slot) 4294967295

-- a used number above the room is read as the room
abbrev pub in_use : {X : Type 0} → List X → Head → ℕ
in_use slot head = min head.used (room slot)

-- the tally that a slot holds
abbrev pub held : {K : Type 0} → List (Row K) → Head → Summary K
held slot head = record { rows = take (in_use slot head) slot; lost = head.lost }

-- the tally of a slot after one more key
abbrev pub stepped : {K : Type 0} → (K → K → Bool) → List (Row K) → Head → K → Summary K
stepped alike slot head k = step alike (room slot) (held slot head) k

-- the head of a tally
abbrev pub head_of : {K : Type 0} → Summary K → Head
head_of t = record { used = length t.rows; lost = t.lost }

-- `front` laid over the first elements of a list; the others stay
abbrev pub over : {X : Type 0} → List X → List X → List X
over front xs = front ++ drop (length front) xs

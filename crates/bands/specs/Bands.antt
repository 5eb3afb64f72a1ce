-- The limits of the ferry classes, and the band of a clearance, in whole centimetres. Assumes nothing.
use Rattle.std.specs.Prelude.{ℕ, ◌-◌, if◌then◌else◌, List, [], ◌∷◌, Some, None, Option, ℤ, pos, int_le, nat_le, count_by, slice_index_or}

-- the least clearance that each class needs, class 1 first
abbrev pub limits : List ℤ
limits = pos 46 ∷ pos 55 ∷ pos 61 ∷ pos 70 ∷ pos 84 ∷ pos 98 ∷ []

-- how many of the limits `ls` a clearance reaches: those that are at most the clearance
abbrev pub reached : ℤ → List ℤ → ℕ
reached clearance ls = count_by (λ l. int_le l clearance) ls

-- the band of a clearance: how many of the six limits it reaches
abbrev pub band : ℤ → ℕ
band clearance = reached clearance limits

-- what a class needs; the classes count from 1
abbrev pub limit : ℕ → ℤ
limit class = slice_index_or limits (class - 1) (pos 0)

-- the band of a number: bands are the numbers 0 to 6
abbrev pub numbered : ℕ → Option ℕ
numbered n = if nat_le n 6 then Some n else None

-- Which blocks answer for a window: the newest n of m arrivals. Assumes nothing.
use Rattle.std.specs.Prelude.{ℕ, zero, suc, ◌+◌, ◌-◌, ◌%◌, ◌^◌, Bool, ◌&&◌, ◌==◌, nat_lt, nat_le, if◌then◌else◌, List, [], ◌∷◌, sum_by}
use Rattle.std.specs.Int.{next_multiple_of}
use Rattle.layout.specs.Slots.{Shape, block_size}
use Rattle.layout.specs.Blocks.{Stretch, size, block_of}

-- the first of `more` scales, from i on, that is for windows of n keys; the scale behind them where none is
abbrev pub scale_from : ℕ → ℕ → ℕ → ℕ → ℕ
scale_from top n i zero = i
scale_from top n i (suc more) = if nat_le n (2 ^ (top + i)) then i else scale_from top n (i + 1) more

-- the scale that answers for windows of n keys: the smallest that is for them (the last, for windows that are longer than any)
abbrev pub scale_of : Shape → ℕ → ℕ
scale_of shape n = scale_from shape.top n 0 (shape.scales - 1)

-- where its cover begins and ends: the window's first arrival rounded up, and its end rounded down, to multiples of the smallest block
abbrev pub start_of : ℕ → ℕ → ℕ → ℕ
start_of i m n = next_multiple_of (m - n) (2 ^ i)

abbrev pub end_of : ℕ → ℕ → ℕ
end_of i m = m - m % 2 ^ i

-- a block of level j can start at arrival p: p is a multiple of its size, and it ends by arrival q
abbrev pub fits : ℕ → ℕ → ℕ → ℕ → Bool
fits i p q j = p % block_size i j == 0 && nat_le (p + block_size i j) q

-- the largest level, j at most, whose block can start at p and ends by q; 0 where there is none
abbrev pub level_at : ℕ → ℕ → ℕ → ℕ → ℕ
level_at i p q zero = 0
level_at i p q (suc j) = if fits i p q (suc j) then suc j else level_at i p q j

-- the walk from p to q, which takes the largest block at each place; n blocks at most
abbrev pub walk : ℕ → ℕ → ℕ → ℕ → ℕ → List Stretch
walk top i zero p q = []
walk top i (suc n) p q =
    if nat_lt p q then block_of top p i (level_at i p q top) ∷ walk top i n (p + block_size i (level_at i p q top)) q
    else []

-- the whole walk: no block holds fewer than one arrival
abbrev pub walk_between : ℕ → ℕ → ℕ → ℕ → List Stretch
walk_between top i p q = walk top i (q - p) p q

-- the blocks that answer for the newest n of m arrivals, oldest first
abbrev pub cover_of : Shape → ℕ → ℕ → List Stretch
cover_of shape m n = let i = scale_of shape n in walk_between shape.top i (start_of i m n) (end_of i m)

-- the arrivals of the window that they leave out
abbrev pub ignored_of : Shape → ℕ → ℕ → ℕ
ignored_of shape m n = n - sum_by size (cover_of shape m n)

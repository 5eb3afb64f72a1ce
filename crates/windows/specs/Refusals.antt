-- Which calls of a fixed window are refused, and as what. Where several reasons hold, the lowest number is told. Assumes nothing.
use Rattle.std.specs.Prelude.{ℕ, ◌^◌, Bool, if◌then◌else◌, ◌&&◌, List, ◌++◌, Ok, Err, Result, ◌==◌, nat_le, nat_lt, codes, decimal}
use Rattle.keeper.specs.declared.lengths.Lengths.{Lengths}
use Rattle.keeper.specs.declared.refusal.Refusal.{Refusal}
use Rattle.keeper.specs.declared.refusal.Refusal.TheVariants.{ShortTable, Spent, Full}
use Rattle.keeper.specs.Figures.{Figures, most_puts}
use Rattle.keeper.specs.Refusals as keeper
use Rattle.keeper.specs.Tables.{short}
use Rattle.windows.specs.declared.refusal.WindowRefusal.{WindowRefusal}
use Rattle.windows.specs.declared.refusal.WindowRefusal.TheVariants.{Unfit, Unfilled, Keeper}

-- the number of each refusal: a keeper's is its own
abbrev pub number_of : WindowRefusal → ℕ
number_of Unfit = 3
number_of Unfilled = 9
number_of (Keeper refusal) = keeper.number_of refusal

-- a refusal in words: `refused NUMBER`
abbrev pub refusal_text : WindowRefusal → List ℕ
refusal_text refusal = codes "refused " ++ decimal (number_of refusal)

-- whether a window of this size can stand on a keeper: the size is from 1 to 2^span - 1, and the keeper's window is empty
abbrev pub may_stand : Figures → ℕ → Bool
may_stand f goal = nat_le 1 goal && nat_lt goal (2 ^ f.span) && f.size == 0

-- whether a window has its size
abbrev pub is_full : Figures → ℕ → Bool
is_full f goal = f.size == goal

-- what a key that comes to a window is answered, by what is needed of the tables and what is lent; `rest` is the answer of its state
abbrev pub come_answer : Lengths → Lengths → Figures → Result (Unit {0}) Refusal → Result (Unit {0}) Refusal
come_answer need lent f rest =
    if short need lent then Err ShortTable
    else if nat_le most_puts f.puts then Err Spent
    else rest

-- what a put answers while the window is being filled
abbrev pub fill_answer : Lengths → Lengths → Figures → ℕ → Result (Unit {0}) Refusal
fill_answer need lent f goal = come_answer need lent f (if is_full f goal then Err Full else Ok tt)

-- what a slide answers
abbrev pub slide_answer : Lengths → Lengths → Figures → Result (Unit {0}) Refusal
slide_answer need lent f = come_answer need lent f (Ok tt)

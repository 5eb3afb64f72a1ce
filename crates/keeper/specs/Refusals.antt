-- Which calls are refused, and as what: for code and promises alike. Where several reasons hold, the lowest number is told, but for a list that is too short, which comes last. Assumes nothing.
use Rattle.std.specs.Prelude.{ℕ, ◌*◌, ◌^◌, Bool, if◌then◌else◌, ◌||◌, List, ◌++◌, Ok, Err, Result, ◌==◌, nat_le, nat_lt, codes, decimal}
use Rattle.keeper.specs.declared.lengths.Lengths.{Lengths}
use Rattle.keeper.specs.declared.refusal.Refusal.{Refusal}
use Rattle.keeper.specs.declared.refusal.Refusal.TheVariants.{ShortTable, ShortList, Spent, Full, Vacant, Threshold}
use Rattle.keeper.specs.Figures.{Figures, most_puts}
use Rattle.keeper.specs.Tables.{short}

-- the number of each refusal
abbrev pub number_of : Refusal → ℕ
number_of ShortTable = 4
number_of ShortList = 5
number_of Spent = 6
number_of Full = 7
number_of Vacant = 8
number_of Threshold = 10

-- a refusal in words: `refused NUMBER`
abbrev pub refusal_text : Refusal → List ℕ
refusal_text refusal = codes "refused " ++ decimal (number_of refusal)

-- a threshold that is not answered: 0, or one that is less than the window's size / 2^accuracy
abbrev pub unfit : Figures → ℕ → Bool
unfit f threshold = threshold == 0 || nat_lt (threshold * 2 ^ f.accuracy) f.size

-- what a put, a drop, a count and a list answer, by what is needed of the tables and what is lent
abbrev pub put_answer : Lengths → Lengths → Figures → Result (Unit {0}) Refusal
put_answer need lent f =
    if short need lent then Err ShortTable
    else if nat_le most_puts f.puts then Err Spent
    else if nat_le (2 ^ f.span) f.size then Err Full
    else Ok tt

abbrev pub drop_answer : Figures → Result (Unit {0}) Refusal
drop_answer f = if f.size == 0 then Err Vacant else Ok tt

-- `value` is what is answered where nothing is refused
abbrev pub count_answer : {X : Type 0} → Lengths → Lengths → X → Result X Refusal
count_answer need lent value = if short need lent then Err ShortTable else Ok value

-- a list with these tables and at this threshold; `rest` is what is answered where neither is refused
abbrev pub question_answer : {X : Type 0} → Lengths → Lengths → Figures → ℕ → Result X Refusal → Result X Refusal
question_answer need lent f threshold rest =
    if short need lent then Err ShortTable
    else if unfit f threshold then Err Threshold
    else rest

-- `room` entries can be written, and `named` are to be
abbrev pub room_answer : ℕ → ℕ → Result ℕ Refusal
room_answer room named = if nat_lt room named then Err ShortList else Ok named

-- the same of a list at a threshold, with these tables
abbrev pub list_answer : Lengths → Lengths → Figures → ℕ → ℕ → ℕ → Result ℕ Refusal
list_answer need lent f threshold room named = question_answer need lent f threshold (room_answer room named)

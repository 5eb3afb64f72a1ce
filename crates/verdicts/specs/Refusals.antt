-- Which verdicts are refused, and as what: for code and promises alike. Where both reasons hold, the lower number is told. Assumes nothing.
use Rattle.std.specs.Prelude.{ℕ, Bool, if◌then◌else◌, ◌&&◌, List, ◌++◌, Ok, Err, Result, nat_le, codes, decimal}
use Rattle.keeper.specs.declared.lengths.Lengths.{Lengths}
use Rattle.keeper.specs.declared.refusal.Refusal.TheVariants.{ShortTable}
use Rattle.keeper.specs.Refusals as keeper
use Rattle.keeper.specs.Tables.{short}
use Rattle.verdicts.specs.declared.refusal.VerdictRefusal.{VerdictRefusal}
use Rattle.verdicts.specs.declared.refusal.VerdictRefusal.TheVariants.{Class, Keeper}

-- the number of each refusal: a keeper's is its own
abbrev pub number_of : VerdictRefusal → ℕ
number_of Class = 11
number_of (Keeper refusal) = keeper.number_of refusal

-- a refusal in words: `refused NUMBER`
abbrev pub refusal_text : VerdictRefusal → List ℕ
refusal_text refusal = codes "refused " ++ decimal (number_of refusal)

-- the classes that there are
abbrev pub is_class : ℕ → Bool
is_class class = nat_le 1 class && nat_le class 6

-- what is answered, by whether a table is too short and whether there is the class; `value` is the answer where nothing is refused
abbrev pub answer_by : {X : Type 0} → Bool → Bool → X → Result X VerdictRefusal
answer_by short there value =
    if short then Err (Keeper ShortTable)
    else if there then Ok value
    else Err Class

-- what is answered about a class, by what is needed of the tables and what is lent
abbrev pub verdict_answer : {X : Type 0} → Lengths → Lengths → ℕ → X → Result X VerdictRefusal
verdict_answer need lent class value = answer_by (short need lent) (is_class class) value

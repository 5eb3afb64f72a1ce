-- A window of the latest keys with tables of its own. Assumes nothing.
use Rattle.std.specs.Prelude.{◌≡◌, ℕ, true, false, if◌then◌else◌, List, [], ◌∷◌, ◌++◌, Ok, Err, is_ok, Result, nat_le}
use Rattle.tally.specs.declared.rows.Head.{Head}
use Rattle.tally.specs.declared.rows.Row.{Row}
use Rattle.keeper.specs.declared.lengths.Lengths.{Lengths}
use Rattle.keeper.specs.declared.refusal.Refusal.{Refusal}
use Rattle.keeper.specs.declared.refusal.Refusal.TheVariants.{Spent, Threshold}
use Rattle.keeper.specs.Figures.{Figures, most_puts}
use Rattle.keeper.specs.Refusals.{room_answer, unfit}
use Rattle.keeper.specs.Tables.{lengths, needed, short}
use Rattle.verdicts.specs.declared.refusal.VerdictRefusal.{VerdictRefusal}
use Rattle.verdicts.specs.declared.refusal.VerdictRefusal.TheVariants.{Class}
use Rattle.verdicts.specs.Refusals.{is_class}
use Rattle.windows.specs.Fixed.{Fixed}
use Rattle.latest.specs.Latest.{HoldsLatest, moved_on}

-- The window, and the tables that its keeper is lent.
pub record InTables (K P : Type 0) : Type 0 where
  pub window : Fixed P
  pub rows : List (Row K)
  pub heads : List Head

-- What a key, a list and a verdict are answered beside tables that are long enough.
abbrev pub take_answer_in : Figures → Result (Unit {0}) Refusal
take_answer_in f = if nat_le most_puts f.puts then Err Spent else Ok tt

abbrev pub list_answer_in : Figures → ℕ → ℕ → ℕ → Result ℕ Refusal
list_answer_in f threshold room named = if unfit f threshold then Err Threshold else room_answer room named

-- `value` is the answer where nothing is refused.
abbrev pub verdict_answer_in : {X : Type 0} → ℕ → X → Result X VerdictRefusal
verdict_answer_in class value = if is_class class then Ok value else Err Class

module _ {K P : Type 0} (figures : P → Figures) where
  -- The tables are long enough for the keeper.
  abbrev pub IsLongEnough : (ℕ → ℕ → Lengths) → InTables K P → Type 0
  IsLongEnough need w = short (needed figures need w.window.keeper) (lengths w.rows w.heads) ≡ false

  module _ (holds : P → List (Row K) → List Head → List K → List K → Type 0) where
    -- Of all the keys that came, window and tables are true to the latest; `before` had come to the keeper then.
    abbrev pub HoldsLatestIn : InTables K P → List K → List K → Type 0
    HoldsLatestIn w before keys = HoldsLatest figures holds w.window w.rows w.heads before keys

    -- One key more.
    pub record TakenIn (w : InTables K P) (key : K) (r : Result (Unit {0}) Refusal) (w' : InTables K P) : Type 0 where
      pub answer : r ≡ take_answer_in (figures w.window.keeper)
      pub goal : w'.window.goal ≡ w.window.goal
      pub tells : is_ok r ≡ true → figures w'.window.keeper ≡ moved_on w.window.goal (figures w.window.keeper)
      pub takes : is_ok r ≡ true → (before keys : List K) → HoldsLatestIn w before keys → HoldsLatestIn w' before (keys ++ key ∷ [])
      pub kept : is_ok r ≡ false → w' ≡ w

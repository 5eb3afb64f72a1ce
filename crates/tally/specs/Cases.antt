-- Worked cases of the tally. Assumes nothing.
use Rattle.std.specs.Prelude.{◌≡◌, ℕ, ◌%◌, Bool, List, [], ◌∷◌, ◌==◌, nat_eq}
use Rattle.tally.specs.declared.rows.Row.{Row}
use Rattle.tally.specs.declared.rows.Head.{Head}
use Rattle.tally.specs.Steps.{Summary, run}
use Rattle.tally.specs.Slots.{stepped}

abbrev pub row_of : ℕ → ℕ → Row ℕ
row_of key count = record { key = key; count = count }

abbrev pub summary : List (Row ℕ) → ℕ → Summary ℕ
summary rows lost = record { rows = rows; lost = lost }

abbrev pub head_with : ℕ → ℕ → Head
head_with used lost = record { used = used; lost = lost }

-- numbers that are alike where their last decimal digit is the same
abbrev pub last_digit : ℕ → ℕ → Bool
last_digit x y = x % 10 == y % 10

-- a row keeps the key that came first, where an alike one has other digits
pub record Runs : Type 0 where
  pub own_key : run last_digit 2 (11 ∷ 21 ∷ []) ≡ summary (row_of 11 2 ∷ []) 0

-- one step in slots that hold what no run leaves there
pub record Oddities : Type 0 where
  pub used_above_room : stepped nat_eq (row_of 1 5 ∷ row_of 2 7 ∷ []) (head_with 9 3) 2 ≡ summary (row_of 1 5 ∷ row_of 2 8 ∷ []) 3
  pub used_above_room_full : stepped nat_eq (row_of 1 5 ∷ row_of 2 1 ∷ []) (head_with 9 3) 4 ≡ summary (row_of 1 4 ∷ []) 4
  pub row_past_used : stepped nat_eq (row_of 1 5 ∷ row_of 2 7 ∷ []) (head_with 1 0) 2 ≡ summary (row_of 1 5 ∷ row_of 2 1 ∷ []) 0
  pub count_at_top : stepped nat_eq (row_of 1 4294967295 ∷ []) (head_with 1 0) 1 ≡ summary (row_of 1 4294967295 ∷ []) 0
  pub lost_at_top : stepped nat_eq (row_of 1 2 ∷ []) (head_with 1 4294967295) 2 ≡ summary (row_of 1 1 ∷ []) 4294967295
  pub count_of_nothing : stepped nat_eq (row_of 1 0 ∷ row_of 2 3 ∷ []) (head_with 2 0) 4 ≡ summary (row_of 2 2 ∷ []) 1
  pub alike_twice : stepped nat_eq (row_of 1 5 ∷ row_of 1 9 ∷ []) (head_with 2 0) 1 ≡ summary (row_of 1 6 ∷ row_of 1 9 ∷ []) 0
  pub no_rows : stepped nat_eq [] (head_with 0 0) 1 ≡ summary [] 1

-- A window of the latest keys. Assumes nothing.
use Rattle.std.specs.Prelude.{◌≡◌, ℕ, ◌+◌, ◌-◌, List, [], ◌∷◌, ◌++◌, min, length, take, drop, Ok, Err, Result}
use Rattle.tally.specs.declared.rows.Head.{Head}
use Rattle.tally.specs.declared.rows.Row.{Row}
use Rattle.keeper.specs.declared.lengths.Lengths.{Lengths}
use Rattle.keeper.specs.declared.refusal.Refusal.{Refusal}
use Rattle.keeper.specs.Figures.{Figures}
use Rattle.keeper.specs.Rules.{TrueTo}
use Rattle.keeper.specs.Tables.{lengths, needed}
use Rattle.windows.specs.declared.refusal.Returned.{Returned}
use Rattle.windows.specs.declared.refusal.WindowRefusal.TheVariants.{Keeper}
use Rattle.windows.specs.Fixed.{Fixed}
use Rattle.windows.specs.Refusals.{slide_answer}

-- The latest of some keys, n of them if there are so many, and the keys before them.
abbrev pub latest : {K : Type 0} → ℕ → List K → List K
latest n keys = drop (length keys - n) keys

abbrev pub earlier : {K : Type 0} → ℕ → List K → List K
earlier n keys = take (length keys - n) keys

-- The figures once one key more has come to a window of this size.
abbrev pub moved_on : ℕ → Figures → Figures
moved_on goal f = record { accuracy = f.accuracy; span = f.span; puts = f.puts + 1; size = min (f.size + 1) goal }

module _ {P K : Type 0} (figures : P → Figures) (holds : P → List (Row K) → List Head → List K → List K → Type 0) where
  -- Of all the keys that came to the window, keeper and tables are true to the latest; `before` had come to the keeper then.
  abbrev pub HoldsLatest : Fixed P → List (Row K) → List Head → List K → List K → Type 0
  HoldsLatest w rows heads before keys = TrueTo figures holds w.keeper rows heads (before ++ earlier w.goal keys) (latest w.goal keys)

  module _ (need : ℕ → ℕ → Lengths) where
    -- A key that was taken.
    pub record Accepted (w : Fixed P) (rows : List (Row K)) (heads : List Head) (key : K) (w' : Fixed P) (rows' : List (Row K)) (heads' : List Head) : Type 0 where
      pub answer : slide_answer (needed figures need w.keeper) (lengths rows heads) (figures w.keeper) ≡ Ok tt
      pub tells : figures w'.keeper ≡ moved_on w.goal (figures w.keeper)
      pub goal : w'.goal ≡ w.goal
      pub takes : (before keys : List K) → HoldsLatest w rows heads before keys → HoldsLatest w' rows' heads' before (keys ++ key ∷ [])
      pub rows_rest : drop (needed figures need w.keeper).rows rows' ≡ drop (needed figures need w.keeper).rows rows
      pub heads_rest : drop (needed figures need w.keeper).heads heads' ≡ drop (needed figures need w.keeper).heads heads

    -- A key that was refused: nothing changed, and the window is handed back.
    pub record Rejected (w : Fixed P) (rows : List (Row K)) (heads : List Head) (back : Returned (Fixed P)) (rows' : List (Row K)) (heads' : List Head) : Type 0 where
      pub reason : Refusal
      pub answer : slide_answer (needed figures need w.keeper) (lengths rows heads) (figures w.keeper) ≡ Err reason
      pub kept : back ≡ record { value = w; refusal = Keeper reason }
      pub rows_kept : rows' ≡ rows
      pub heads_kept : heads' ≡ heads

    -- One key more.
    abbrev pub Taken : Fixed P → List (Row K) → List Head → K → Result (Fixed P) (Returned (Fixed P)) → List (Row K) → List Head → Type 0
    Taken w rows heads key (Ok w') rows' heads' = Accepted w rows heads key w' rows' heads'
    Taken w rows heads key (Err back) rows' heads' = Rejected w rows heads back rows' heads'

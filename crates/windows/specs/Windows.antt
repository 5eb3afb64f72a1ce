-- The contracts of a fixed window's calls, in terms of its keeper's. Assumes nothing.
use Rattle.std.specs.Prelude.{◌≡◌, ℕ, ◌≤◌, true, false, List, [], ◌∷◌, ◌++◌, drop, Ok, Err, is_ok, Result}
use Rattle.tally.specs.declared.rows.Head.{Head}
use Rattle.tally.specs.declared.rows.Row.{Row}
use Rattle.keeper.specs.declared.lengths.Lengths.{Lengths}
use Rattle.keeper.specs.declared.refusal.Refusal.{Refusal}
use Rattle.keeper.specs.Figures.{Figures, grown, shrunk}
use Rattle.keeper.specs.Rules.{TrueTo}
use Rattle.keeper.specs.Tables.{lengths, needed}
use Rattle.windows.specs.declared.refusal.Returned.{Returned}
use Rattle.windows.specs.declared.refusal.WindowRefusal.TheVariants.{Unfit, Unfilled}
use Rattle.windows.specs.Fixed.{Fixed}
use Rattle.windows.specs.Refusals.{may_stand, is_full, fill_answer, slide_answer}

module _ {P : Type 0} (figures : P → Figures) where
  -- a window is made on the keeper, or the keeper is handed back
  abbrev pub Made : P → ℕ → Result (Fixed P) (Returned P) → Type 0
  Made p goal (Ok w) = (may_stand (figures p) goal ≡ true) × (w ≡ record { keeper = p; goal = goal })
  Made p goal (Err back) = (may_stand (figures p) goal ≡ false) × (back ≡ record { value = p; refusal = Unfit })

  -- a window that has its size slides from now on, or it is handed back
  abbrev pub Turned : Fixed P → Result (Fixed P) (Returned (Fixed P)) → Type 0
  Turned w (Ok turned) = (is_full (figures w.keeper) w.goal ≡ true) × (turned ≡ w)
  Turned w (Err back) = (is_full (figures w.keeper) w.goal ≡ false) × (back ≡ record { value = w; refusal = Unfilled })

  module _ {K : Type 0} (holds : P → List (Row K) → List Head → List K → List K → Type 0) (need : ℕ → ℕ → Lengths) where
    -- a put while the window is being filled: the keeper's, but that a window which has its size refuses it
    pub record PutWhileFilling (w : Fixed P) (rows : List (Row K)) (heads : List Head) (key : K) (r : Result (Unit {0}) Refusal) (w' : Fixed P) (rows' : List (Row K)) (heads' : List Head) : Type 0 where
      pub answer : r ≡ fill_answer (needed figures need w.keeper) (lengths rows heads) (figures w.keeper) w.goal
      pub tells : is_ok r ≡ true → figures w'.keeper ≡ grown (figures w.keeper)
      pub takes : is_ok r ≡ true → (past window : List K) → TrueTo figures holds w.keeper rows heads past window
          → TrueTo figures holds w'.keeper rows' heads' past (window ++ key ∷ [])
      pub kept : is_ok r ≡ false → (w' ≡ w) × (rows' ≡ rows) × (heads' ≡ heads)
      pub goal : w'.goal ≡ w.goal
      pub rows_rest : drop (needed figures need w.keeper).rows rows' ≡ drop (needed figures need w.keeper).rows rows
      pub heads_rest : drop (needed figures need w.keeper).heads heads' ≡ drop (needed figures need w.keeper).heads heads

    -- a slide: a put and then a drop, for which there is always a key
    pub record Slid (w : Fixed P) (rows : List (Row K)) (heads : List Head) (key : K) (r : Result (Unit {0}) Refusal) (w' : Fixed P) (rows' : List (Row K)) (heads' : List Head) : Type 0 where
      pub some : 1 ≤ (figures w.keeper).size
      pub answer : r ≡ slide_answer (needed figures need w.keeper) (lengths rows heads) (figures w.keeper)
      pub tells : is_ok r ≡ true → figures w'.keeper ≡ shrunk (grown (figures w.keeper))
      pub takes : is_ok r ≡ true → (past window : List K) (oldest : K) → TrueTo figures holds w.keeper rows heads past (oldest ∷ window)
          → TrueTo figures holds w'.keeper rows' heads' (past ++ oldest ∷ []) (window ++ key ∷ [])
      pub kept : is_ok r ≡ false → (w' ≡ w) × (rows' ≡ rows) × (heads' ≡ heads)
      pub goal : w'.goal ≡ w.goal
      pub rows_rest : drop (needed figures need w.keeper).rows rows' ≡ drop (needed figures need w.keeper).rows rows
      pub heads_rest : drop (needed figures need w.keeper).heads heads' ≡ drop (needed figures need w.keeper).heads heads

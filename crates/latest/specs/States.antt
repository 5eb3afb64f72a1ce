-- What a window of the latest keys is made of. Assumes nothing.
use Rattle.std.specs.Prelude.{◌≡◌, ℕ, ◌<◌, ◌≤◌, Bool, true, false, List, Result}
use Rattle.tally.specs.declared.rows.Head.{Head}
use Rattle.tally.specs.declared.rows.Row.{Row}
use Rattle.keeper.specs.declared.lengths.Lengths.{Lengths}
use Rattle.keeper.specs.declared.refusal.Refusal.{Refusal}
use Rattle.keeper.specs.Figures.{Figures}
use Rattle.windows.specs.Fixed.{Fixed}
use Rattle.windows.specs.Windows.{PutWhileFilling, Slid}
use Rattle.latest.specs.declared.latest.State.{State}
use Rattle.latest.specs.declared.latest.State.TheVariants.{Filling, Sliding}

-- Its fixed window, in either state.
abbrev pub fixed_of : {P : Type 0} → State P → Fixed P
fixed_of (Filling w) = w
fixed_of (Sliding w) = w

abbrev pub slides : {P : Type 0} → State P → Bool
slides (Filling w) = false
slides (Sliding w) = true

module _ {P : Type 0} (figures : P → Figures) where
  -- It slides as soon as it has its size, which is 1 or more.
  pub record IsSettled (s : State P) : Type 0 where
    pub some : 1 ≤ (fixed_of s).goal
    pub fills : slides s ≡ false → (figures (fixed_of s).keeper).size < (fixed_of s).goal
    pub full : slides s ≡ true → (figures (fixed_of s).keeper).size ≡ (fixed_of s).goal

  module _ {K : Type 0} (holds : P → List (Row K) → List Head → List K → List K → Type 0) (need : ℕ → ℕ → Lengths) where
    -- A put or a slide, by the state.
    abbrev pub Moved : State P → List (Row K) → List Head → K → Result (Unit {0}) Refusal → State P → List (Row K) → List Head → Type 0
    Moved (Filling w) rows heads key r (Filling w') rows' heads' = PutWhileFilling figures holds need w rows heads key r w' rows' heads'
    Moved (Sliding w) rows heads key r (Sliding w') rows' heads' = Slid figures holds need w rows heads key r w' rows' heads'
    Moved (Filling w) rows heads key r (Sliding w') rows' heads' = ⊥
    Moved (Sliding w) rows heads key r (Filling w') rows' heads' = ⊥

-- What the reference model keeps of a trace: a plain account of what was put and let go. Assumes nothing.
use Rattle.std.specs.Prelude.{ℕ, ◌+◌, List, [], ◌∷◌, ◌++◌, drop, length, take}
use Rattle.keeper.specs.declared.lengths.Lengths.{Lengths}
use Rattle.keeper.specs.Figures.{Figures}

-- what stays the same over a trace: accuracy and span, what the keeper needs of the tables, and what it is lent
pub record Terms : Type 0 where
  pub accuracy : ℕ
  pub span : ℕ
  pub need : Lengths
  pub lent : Lengths

-- what the window is: any keeper's, one that is being filled to a size, or one that slides at that size
pub data State : Type 0 where
  keeping : State
  filling : ℕ → State
  sliding : ℕ → State

-- the keys that were let go, and the window; both oldest first
pub record Account (K : Type 0) : Type 0 where
  pub state : State
  pub past : List K
  pub window : List K

module _ {K : Type 0} where
  -- where every trace begins
  abbrev pub blank : Account K
  blank = record { state = keeping; past = []; window = [] }

  -- the figures of a keeper that is true to the account
  abbrev pub figures_of : Terms → Account K → Figures
  figures_of t a = record { accuracy = t.accuracy; span = t.span; puts = length a.past + length a.window; size = length a.window }

  -- a key comes at the window's end
  abbrev pub took : Account K → K → Account K
  took a key = record { state = a.state; past = a.past; window = a.window ++ key ∷ [] }

  -- the window's oldest key is let go, if there is one
  abbrev pub let_go : Account K → Account K
  let_go a = record { state = a.state; past = a.past ++ take 1 a.window; window = drop 1 a.window }

  -- the same keys in another state
  abbrev pub turned_to : Account K → State → Account K
  turned_to a s = record { state = s; past = a.past; window = a.window }

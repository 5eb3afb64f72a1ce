-- What a counter promises of one value more. Assumes nothing.
use Rattle.std.specs.Prelude.{◌≡◌, ℕ, ◌+◌, ◌<◌, List, [], ◌∷◌, ◌++◌, Ok, Result}
use Rattle.sentences.specs.declared.error.SentenceError.{SentenceError}
use Rattle.watch.specs.Report.{most_lines}

module _ {C V : Type 0} (reading : List ℕ → Result V SentenceError) (came : C → ℕ) (holds : C → List V → Type 0) where
  -- The counter before and after a value that some text is read as. As many as there are lines are all that can come.
  pub record Takes (before : C) (value : V) (after : C) : Type 0 where
    pub counts : came before < most_lines → came after ≡ came before + 1
    pub holds_more : came before < most_lines → (text : List ℕ) (values : List V) → reading text ≡ Ok value → holds before values → holds after (values ++ value ∷ [])

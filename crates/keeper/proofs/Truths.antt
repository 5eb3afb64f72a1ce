-- A keeper that is true to a window tells its size and its puts after a put and a drop, too. Assumes nothing.
use Rattle.std.proofs.Common.{◌≡◌, List, [], ◌∷◌, ◌++◌, ap, ◌∙◌, arith}
use Rattle.std.proofs.lemmas.List.{length_push}
use Rattle.tally.specs.declared.rows.Head.{Head}
use Rattle.tally.specs.declared.rows.Row.{Row}
use Rattle.keeper.specs.Figures.{Figures, grown, shrunk}
use Rattle.keeper.specs.Rules.{TrueTo}

module _ {S K : Type 0} (figures : S → Figures) (holds : S → List (Row K) → List Head → List K → List K → Type 0) (s s' : S) (rows rows' : List (Row K)) (heads heads' : List Head) where
  pub true_put : (past window : List K) (key : K) → figures s' ≡ grown (figures s) → TrueTo figures holds s rows heads past window → holds s' rows' heads' past (window ++ key ∷ [])
      → TrueTo figures holds s' rows' heads' past (window ++ key ∷ [])
  true_put past window key tells t held = record {
    held = held;
    size = ap (λ f. f.size) tells ∙ omega (arith, t.size, length_push window key);
    puts = ap (λ f. f.puts) tells ∙ omega (arith, t.puts, length_push window key);
  }

  pub true_drop : (past : List K) (oldest : K) (window : List K) → figures s' ≡ shrunk (figures s) → TrueTo figures holds s rows heads past (oldest ∷ window) → holds s' rows heads (past ++ oldest ∷ []) window
      → TrueTo figures holds s' rows heads (past ++ oldest ∷ []) window
  true_drop past oldest window tells t held = record {
    held = held;
    size = ap (λ f. f.size) tells ∙ omega (arith, t.size);
    puts = ap (λ f. f.puts) tells ∙ omega (arith, t.puts, length_push past oldest);
  }

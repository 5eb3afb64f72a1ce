-- What a window with tables of its own takes. Assumes nothing.
use Rattle.std.proofs.Common.{◌≡◌, ℕ, ◌<◌, true, List, Ok, is_ok, Result, sym, arith}
use Rattle.std.proofs.lemmas.Bool.Decides.{nat_tests}
use Rattle.tally.specs.declared.rows.Head.{Head}
use Rattle.tally.specs.declared.rows.Row.{Row}
use Rattle.keeper.specs.declared.lengths.Lengths.{Lengths}
use Rattle.keeper.specs.declared.refusal.Refusal.{Refusal}
use Rattle.keeper.specs.Figures.{Figures, most_puts}
use Rattle.latest.specs.Latest.{Accepted}
use Rattle.latest.specs.WithTables.{InTables, IsLongEnough, take_answer_in, TakenIn}

-- Fewer keys than 2^30 are all accepted.
pub accepts : (f : Figures) (r : Result (Unit {0}) Refusal) → r ≡ take_answer_in f → f.puts < most_puts → is_ok r ≡ true
accepts f r answer few = grind (arith, nat_tests)

module _ {K P : Type 0} (figures : P → Figures) (holds : P → List (Row K) → List Head → List K → List K → Type 0) (need : ℕ → ℕ → Lengths) where
  -- The tables are long enough, so a key that the window took is one that they took.
  pub takes : (w : InTables K P) → IsLongEnough figures need w → (key : K) → (w' : InTables K P)
      → Accepted figures holds need w.window w.rows w.heads key w'.window w'.rows w'.heads → TakenIn figures holds w key (Ok tt) w'
  takes w enough key w' a = record {
    answer = sym (rw enough at a.answer);
    goal = a.goal;
    tells = λ taken. a.tells;
    takes = λ taken. a.takes;
    kept = λ refused. absurd (cc);
  }

-- What is known of a call that was not refused. Assumes nothing.
use Rattle.std.proofs.Common.{◌≡◌, ℕ, ◌^◌, ◌<◌, ◌≤◌, true, false, is_ok, arith}
use Rattle.std.proofs.lemmas.Bool.Decides.{nat_tests}
use Rattle.keeper.specs.declared.lengths.Lengths.{Lengths}
use Rattle.keeper.specs.Figures.{Figures, most_puts}
use Rattle.keeper.specs.Refusals.{unfit, put_answer}

pub not_unfit : (f : Figures) (threshold : ℕ) → unfit f threshold ≡ false → 1 ≤ threshold
not_unfit f threshold e = grind (arith, nat_tests)

-- what is known of a put that was not refused
pub record Admitted (need lent : Lengths) (f : Figures) : Type 0 where
  pub rows : need.rows ≤ lent.rows
  pub heads : need.heads ≤ lent.heads
  pub more : f.puts < most_puts
  pub free : f.size < 2 ^ f.span

pub put_admitted : (need lent : Lengths) (f : Figures) → is_ok (put_answer need lent f) ≡ true → Admitted need lent f
put_admitted need lent f e = record { rows = grind (arith, nat_tests); heads = grind (arith, nat_tests); more = grind (arith, nat_tests); free = grind (arith, nat_tests) }

-- What the window's tables say is what follows from the soundings that came. Assumes nothing.
use Rattle.std.proofs.Common.{◌≡◌, ℕ, zero, suc, List, length, ◌∙◌, subst, arith}
use Rattle.std.proofs.lemmas.Bool.Decides.{nat_tests}
use Rattle.likeness.specs.Agree.{same_sounding}
use Rattle.likeness.specs.Counts.{true_count, truly_short}
use Rattle.likeness.specs.Laws.{reflexive, sounding_decides, sounding_part, symmetric, transitive}
use Rattle.likeness.specs.declared.sounding.SoundingKey.{SoundingKey}
use Rattle.keeper.specs.Figures.{Figures}
use Rattle.keeper.specs.Rules.{Bracket, TrueTo}
use Rattle.ladder.specs.Exact.{counts}
use Rattle.ladder.specs.Ladders.{bracket}
use Rattle.ladder.specs.Truth.{HoldsWindow}
use Rattle.ladder.proofs.Held.{bracket_is_right, counts_exactly}
use Rattle.verdicts.specs.Rules.{Sums}
use Rattle.verdicts.specs.Verdicts.{added, judged, sums_below}
use Rattle.verdicts.proofs.Adding.{short_sums_more, short_sums_none}
use Rattle.verdicts.proofs.Judging.{right}
use Rattle.verdicts.proofs.ShortKeys.{next}
use Rattle.latest.specs.Latest.{earlier, latest}
use Rattle.latest.specs.WithTables.{InTables}
use Rattle.soundings.specs.Soundings.{berth_sounder, bracket_in, IsRightFor, IsSet, JudgesRight, judgement_on, most_soundings}

module _ (window : InTables SoundingKey Figures) (set : IsSet window) (soundings : List SoundingKey) (holds : IsRightFor window soundings) where
  true_to : TrueTo (λ s. s) (HoldsWindow same_sounding) window.window.keeper window.rows window.heads (earlier most_soundings soundings) (latest most_soundings soundings)
  true_to = subst (λ n. TrueTo (λ s. s) (HoldsWindow same_sounding) window.window.keeper window.rows window.heads (earlier n soundings) (latest n soundings)) set.goal holds

  pub size_is : window.window.keeper.size ≡ length (latest most_soundings soundings)
  size_is = true_to.size

  bracket_is : (key : SoundingKey) → bracket same_sounding window.window.keeper window.rows window.heads key ≡ bracket_in soundings key
  bracket_is key =
      counts_exactly same_sounding window.window.keeper window.rows window.heads (earlier most_soundings soundings) (latest most_soundings soundings) true_to.held true_to.size true_to.puts key
      ∙ (λ i. counts same_sounding (set.accuracy i) (set.span i) (earlier most_soundings soundings) (latest most_soundings soundings) key)

  pub judgement_is : (class : ℕ) → judged window.window.keeper.size (sums_below (bracket same_sounding window.window.keeper window.rows window.heads) berth_sounder class) ≡ judgement_on soundings class
  judgement_is class = λ i. judged (true_to.size i) (sums_below (λ key. bracket_is key i) berth_sounder class)

  bracket_right : (key : SoundingKey) → Bracket 1 (length (latest most_soundings soundings)) (true_count same_sounding (latest most_soundings soundings) key) (bracket_in soundings key)
  bracket_right key =
      let right = bracket_is_right same_sounding window.window.keeper window.rows window.heads (earlier most_soundings soundings) (latest most_soundings soundings) true_to.held true_to.size true_to.puts
      (reflexive sounding_part same_sounding sounding_decides) (symmetric sounding_part same_sounding sounding_decides) (transitive sounding_part same_sounding sounding_decides) key in
      subst (λ b. Bracket 1 (length (latest most_soundings soundings)) (true_count same_sounding (latest most_soundings soundings) key) b) (bracket_is key)
      (subst (λ a. Bracket a (length (latest most_soundings soundings)) (true_count same_sounding (latest most_soundings soundings) key) (bracket same_sounding window.window.keeper window.rows window.heads key)) set.accuracy right)

  sums_right : (class : ℕ) → Sums 1 (length (latest most_soundings soundings)) (truly_short (latest most_soundings soundings) berth_sounder class) class (sums_below (bracket_in soundings) berth_sounder class)
  sums_right zero = short_sums_none 1 (length (latest most_soundings soundings)) (latest most_soundings soundings) berth_sounder
  sums_right (suc band) =
      let sums = sums_below (bracket_in soundings) berth_sounder band in
      let one = bracket_in soundings (record { sounder = berth_sounder; band = band }) in
      subst (λ class. Sums 1 (length (latest most_soundings soundings)) (truly_short (latest most_soundings soundings) berth_sounder class) class (added sums one)) (next band)
      (short_sums_more 1 (length (latest most_soundings soundings)) (latest most_soundings soundings) berth_sounder band sums one (sums_right band) (bracket_right (record { sounder = berth_sounder; band = band })))

  pub judges_right : JudgesRight soundings
  judges_right class there =
      right 1 (length (latest most_soundings soundings)) (truly_short (latest most_soundings soundings) berth_sounder class) class (sums_below (bracket_in soundings) berth_sounder class)
      (grind (arith, nat_tests)) (sums_right class)

-- A slide, as a call of a trace. Assumes nothing.
use Rattle.std.proofs.Common.{◌≡◌, ℕ, Bool, true, if◌then◌else◌, nat_le, List, [], ◌∷◌, length, take, is_ok, Ok, Err, Result, refl, sym, ap, ◌∙◌, arith}
use Rattle.tally.specs.declared.rows.Head.{Head}
use Rattle.tally.specs.declared.rows.Row.{Row}
use Rattle.keeper.specs.declared.entry.Entry.{Entry}
use Rattle.keeper.specs.declared.lengths.Lengths.{Lengths}
use Rattle.keeper.specs.declared.refusal.Refusal.{Refusal}
use Rattle.keeper.specs.declared.refusal.Refusal.TheVariants.{ShortTable, Spent}
use Rattle.keeper.specs.Figures.{Figures, most_puts}
use Rattle.keeper.specs.Rules.{TrueTo}
use Rattle.keeper.specs.Tables.{short}
use Rattle.windows.specs.Fixed.{Fixed}
use Rattle.windows.specs.Windows as windows
use Rattle.traces.specs.declared.calls.Call.TheVariants.{Slide}
use Rattle.traces.specs.declared.stage.Stage.TheVariants.{Sliding}
use Rattle.traces.specs.Account.{Account, Terms, let_go, sliding, took}
use Rattle.traces.specs.Model.{Meets, change, due, next, next_by, told_as, unless_refused}
use Rattle.traces.specs.Steps.{Fits, Steps, done_by, is_done}
use Rattle.traces.specs.Stages.{Follows, terms_at, written}

module _ {P K : Type 0} (figures : P → Figures) (holds : P → List (Row K) → List Head → List K → List K → Type 0) (need : ℕ → ℕ → Lengths) (alike : K → K → Bool)
    (bracket : P → List (Row K) → List Head → K → ℕ × ℕ) (listing : P → List (Row K) → List Head → ℕ → List (Entry K))
    (w w' : Fixed P) (rows rows' : List (Row K)) (heads heads' : List Head) (list : List (Entry K)) (key : K) (r : Result (Unit {0}) Refusal)
    (e : windows.Slid figures holds need w rows heads key r w' rows' heads') (rows_kept : length rows' ≡ length rows) (heads_kept : length heads' ≡ length heads) where
  abbrev t : Terms
  t = terms_at figures need w.keeper rows heads

  same_terms : is_ok r ≡ true → terms_at figures need w'.keeper rows' heads' ≡ t
  same_terms ok = rw rows_kept (rw heads_kept (rw (e.tells ok) refl))

  module _ (past : List K) (oldest : K) (rest : List K) (h : TrueTo figures holds w.keeper rows heads past (oldest ∷ rest)) where
    abbrev a : Account K
    a = record { state = sliding w.goal; past = past; window = oldest ∷ rest }

    -- whether the slide was accepted or not
    either : (s : Result (Unit {0}) Refusal) → r ≡ s
        → Meets alike t a (length list) (unless_refused s (change (let_go (took a key)))) (told_as (λ count. take count list) (done_by s))
        × Follows figures holds need t (next_by a (unless_refused s (change (let_go (took a key))))) (Sliding w') rows' heads'
    either (Ok done) is =
        let ok : is_ok r ≡ true = ap is_ok is in
        (refl, record { state = ap sliding e.goal; terms = same_terms ok; true_to = e.takes ok past rest oldest h })
    either (Err refusal) is =
        let kept = e.kept (ap is_ok is) in
        (refl, rw kept.0 (rw kept.1 (rw kept.2 (record { state = refl; terms = refl; true_to = h }))))

    goes : Meets alike t a (length list) (due t a (Slide key)) (told_as (λ count. take count list) (done_by r)) × Follows figures holds need t (next t a (Slide key)) (Sliding w') rows' heads'
    goes =
        rw (sym (e.answer ∙ ap (λ puts. if short t.need t.lent then Err ShortTable else if nat_le most_puts puts then Err Spent else Ok tt) h.puts))
        (either r refl)

  -- it is no list
  list_kept : (s : Result (Unit {0}) Refusal) → Fits (length list) (done_by s) × (list ≡ written list (told_as (λ count. take count list) (done_by s)))
  list_kept (Ok done) = (tt, refl)
  list_kept (Err refusal) = (tt, refl)

  done_ok : (s : Result (Unit {0}) Refusal) → is_done (done_by s) ≡ is_ok s
  done_ok (Ok done) = refl
  done_ok (Err refusal) = refl

  pub steps_slide : Steps figures holds need alike bracket listing (Sliding w) rows heads list (Slide key) (Sliding w') (done_by r) rows' heads' list
  steps_slide = record {
    goes = λ past. elim [
      | [] ↦ λ h. absurd (omega (arith, e.some, h.size))
      | oldest ∷ rest ↦ λ h. goes past oldest rest h
    ];
    gives = tt;
    kept = λ told. let kept = e.kept (sym (done_ok r) ∙ told) in (ap Sliding kept.0, kept.1, kept.2);
    fits = (list_kept r).0;
    list_after = (list_kept r).1;
    rows_rest = e.rows_rest;
    heads_rest = e.heads_rest;
  }

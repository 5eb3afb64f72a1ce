-- A ladder that counted a key in its blocks has put as a keeper does. Assumes nothing.
use Rattle.std.proofs.Common.{◌≡◌, ◌+◌, ◌-◌, ◌^◌, Bool, true, false, cond, List, [], ◌∷◌, ◌++◌, length, drop, is_ok, Result, sym, refl, ap, ◌∙◌, subst, append_assoc, length-append, arith}
use Rattle.std.proofs.lemmas.List.{length_push}
use Rattle.keeper.specs.declared.refusal.Refusal.{Refusal}
use Rattle.keeper.specs.Figures.{Figures, grown}
use Rattle.keeper.specs.Refusals.{put_answer}
use Rattle.keeper.specs.Rules.{Put}
use Rattle.keeper.specs.Tables.{lengths, needed}
use Rattle.keeper.proofs.Admits.{Admitted, put_admitted}
use Rattle.keeper.proofs.Truths.{true_put}
use Rattle.layout.proofs.SmallNumbers.{shape_rows}
use Rattle.tally.specs.declared.rows.Head.{Head}
use Rattle.tally.specs.declared.rows.Row.{Row}
use Rattle.ladder.specs.Ladders.{need_of, shape_at, stored}
use Rattle.ladder.specs.Tables.{HasRoom, put_tables, tables, TakesSteps}
use Rattle.ladder.specs.Truth.{HoldsTallies, HoldsWindow}
use Rattle.ladder.proofs.Newest.{put_holds}
use Rattle.ladder.proofs.Visits.{put_behind, put_leaves, put_steps}

module _ {K : Type 0} (alike : K → K → Bool) (s s' : Figures) (r : Result (Unit {0}) Refusal) where
  module _ (rows rows' : List (Row K)) (heads heads' : List Head) (key : K)
      (answer : r ≡ put_answer (needed (λ f. f) need_of s) (lengths rows heads) s) (told : s' ≡ cond (is_ok r) (grown s) s)
      (written : tables rows' heads' ≡ cond (is_ok r) (stored alike s rows heads key) (tables rows heads)) where
    admitted : is_ok r ≡ true → Admitted (needed (λ f. f) need_of s) (lengths rows heads) s
    admitted ok = put_admitted (needed (λ f. f) need_of s) (lengths rows heads) s (ap is_ok (sym answer) ∙ ok)

    room : is_ok r ≡ true → HasRoom (shape_at s) rows heads
    room ok = record { enough_rows = (admitted ok).rows; enough_heads = (admitted ok).heads }

    tells : is_ok r ≡ true → s' ≡ grown s
    tells ok = told ∙ ap (λ b. cond b (grown s) s) ok

    after : is_ok r ≡ true → tables rows' heads' ≡ stored alike s rows heads key
    after ok = written ∙ ap (λ b. cond b (stored alike s rows heads key) (tables rows heads)) ok

    kept : is_ok r ≡ false → tables rows' heads' ≡ tables rows heads
    kept no_ok = written ∙ ap (λ b. cond b (stored alike s rows heads key) (tables rows heads)) no_ok

    pub stored_steps : is_ok r ≡ true → TakesSteps alike s.puts key (shape_at s) (tables rows heads) (tables rows' heads')
    stored_steps ok =
        subst (TakesSteps alike s.puts key (shape_at s) (tables rows heads)) (sym (after ok))
        (record { steps = put_steps alike s.puts key (shape_at s) (tables rows heads) (room ok); stays = put_leaves alike s.puts key (shape_at s) (tables rows heads) (room ok) })

    takes : is_ok r ≡ true → (past window : List K) → length past + length window ≡ s.puts → s.size ≡ length window → HoldsWindow alike s rows heads past window → HoldsWindow alike s' rows' heads' past (window ++ key ∷ [])
    takes ok past window came size held =
        let many : length (past ++ window) ≡ s.puts = length-append past window ∙ came in
        let few = shape_rows (shape_at s).top (shape_at s).scales held.levels in
        let last : (shape_at s).top + ((shape_at s).scales - 1) ≡ s.span = omega (arith, held.levels.some) in
        let holds = put_holds alike (shape_at s) (omega (arith, few)) (past ++ window) key (tables rows heads) (room ok) held.tallies in
        let now : HoldsTallies alike (shape_at s) (tables rows' heads') ((past ++ window) ++ key ∷ []) =
        subst (λ t. HoldsTallies alike (shape_at s) t ((past ++ window) ++ key ∷ [])) (sym (after ok))
        (subst (λ m. HoldsTallies alike (shape_at s) (put_tables alike m key (shape_at s) (tables rows heads)) ((past ++ window) ++ key ∷ [])) many holds) in
        subst (λ f. HoldsWindow alike f rows' heads' past (window ++ key ∷ [])) (sym (tells ok))
        (record {
          levels = held.levels;
          short = omega (arith, (admitted ok).free, size, length_push window key, ap (λ e. 2 ^ e) last);
          few = omega (arith, (admitted ok).more, came, length_push window key);
          tallies = subst (HoldsTallies alike (shape_at s) (tables rows' heads')) (append_assoc past window (key ∷ [])) now;
        })

    pub stored_puts : Put (λ f. f) (HoldsWindow alike) need_of s rows heads key r s' rows' heads'
    stored_puts = record {
      answer = answer;
      tells = tells;
      takes = λ ok past window t. true_put (λ f. f) (HoldsWindow alike) s s' rows rows' heads heads' past window key (tells ok) t (takes ok past window (sym t.puts) t.size t.held);
      kept = λ no_ok. (told ∙ ap (λ b. cond b (grown s) s) no_ok, ap (λ t. t.rows) (kept no_ok), ap (λ t. t.heads) (kept no_ok));
      rows_rest = behind.0;
      heads_rest = behind.1;
    }
      where
        ways : (b : Bool) → is_ok r ≡ b → (drop (needed (λ f. f) need_of s).rows rows' ≡ drop (needed (λ f. f) need_of s).rows rows) × (drop (needed (λ f. f) need_of s).heads heads' ≡ drop (needed (λ f. f) need_of s).heads heads)
        ways true ok =
            let same = put_behind alike s.puts key (shape_at s) (tables rows heads) (room ok) in
            (ap (λ t. drop (needed (λ f. f) need_of s).rows t.rows) (after ok) ∙ same.0, ap (λ t. drop (needed (λ f. f) need_of s).heads t.heads) (after ok) ∙ same.1)
        ways false no_ok = (ap (λ t. drop (needed (λ f. f) need_of s).rows t.rows) (kept no_ok), ap (λ t. drop (needed (λ f. f) need_of s).heads t.heads) (kept no_ok))

        behind : (drop (needed (λ f. f) need_of s).rows rows' ≡ drop (needed (λ f. f) need_of s).rows rows) × (drop (needed (λ f. f) need_of s).heads heads' ≡ drop (needed (λ f. f) need_of s).heads heads)
        behind = ways (is_ok r) refl

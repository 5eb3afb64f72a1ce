-- A ring that stored a key, or forgot its oldest, has put and dropped as a keeper does. Assumes nothing.
use Rattle.std.proofs.Common.{◌≡◌, ◌%◌, ◌^◌, true, cond, List, [], ◌∷◌, ◌++◌, drop, is_ok, Result, sym, refl, ap, ◌∙◌, subst, arith}
use Rattle.std.proofs.lemmas.Nat.{mod_below, pow_pos}
use Rattle.std.proofs.lemmas.List.{drop-set-lt}
use Rattle.std.proofs.lemmas.Bool.{cond_both}
use Rattle.keeper.specs.declared.refusal.Refusal.{Refusal}
use Rattle.keeper.specs.Figures.{Figures, grown, shrunk}
use Rattle.keeper.specs.Refusals.{drop_answer, put_answer}
use Rattle.keeper.specs.Rules.{Dropped, Put}
use Rattle.keeper.specs.Tables.{lengths, needed}
use Rattle.keeper.proofs.Admits.{put_admitted}
use Rattle.keeper.proofs.Truths.{true_drop, true_put}
use Rattle.tally.specs.declared.rows.Head.{Head}
use Rattle.tally.specs.declared.rows.Row.{Row}
use Rattle.tally.specs.Steps.{entered}
use Rattle.ring.specs.Rings.{HoldsWindow, need_of, stored, window_of}
use Rattle.ring.proofs.Rounds.{keys_drop, keys_put}

module _ {K : Type 0} (s s' : Figures) (r : Result (Unit {0}) Refusal) where
  pub stored_puts : (rows rows' : List (Row K)) (heads : List Head) (key : K) → r ≡ put_answer (needed (λ f. f) need_of s) (lengths rows heads) s
      → s' ≡ cond (is_ok r) (grown s) s → rows' ≡ cond (is_ok r) (stored s rows key) rows → Put (λ f. f) HoldsWindow need_of s rows heads key r s' rows' heads
  stored_puts rows rows' heads key answer told written =
      let rounds = 2 ^ s.span in
      let tells : is_ok r ≡ true → s' ≡ grown s = λ ok. told ∙ ap (λ b. cond b (grown s) s) ok in
      let rows_are : is_ok r ≡ true → rows' ≡ stored s rows key = λ ok. written ∙ ap (λ b. cond b (stored s rows key) rows) ok in
      record {
        answer = answer;
        tells = tells;
        takes = λ ok past window t.
            let free = put_admitted (needed (λ f. f) need_of s) (lengths rows heads) s (ap is_ok (sym answer) ∙ ok) in
            true_put (λ f. f) HoldsWindow s s' rows rows' heads heads past window key (tells ok) t
            ((λ i. window_of (tells ok i) (rows_are ok i))
            ∙ keys_put rows rounds s.puts s.size (entered key) (omega (arith, t.size, t.puts)) free.free free.rows
            ∙ ap (λ keys. keys ++ key ∷ []) t.held);
        kept = λ no. (told ∙ ap (λ b. cond b (grown s) s) no, written ∙ ap (λ b. cond b (stored s rows key) rows) no, refl);
        rows_rest = subst (λ table. drop rounds table ≡ drop rounds rows) (sym written)
            (cond_both (is_ok r) (stored s rows key) rows (λ table. drop rounds table ≡ drop rounds rows)
            (λ _. drop-set-lt rounds rows (s.puts % rounds) (entered key) (mod_below s.puts rounds (pow_pos _)))
            (λ _. refl));
        heads_rest = refl;
      }

  pub forgot_drops : r ≡ drop_answer s → s' ≡ cond (is_ok r) (shrunk s) s → Dropped {K = K} (λ f. f) HoldsWindow s r s'
  forgot_drops answer told =
      let tells : is_ok r ≡ true → s' ≡ shrunk s = λ ok. told ∙ ap (λ b. cond b (shrunk s) s) ok in
      record {
        answer = answer;
        tells = tells;
        leaves = λ ok rows heads past oldest window t.
            true_drop (λ f. f) HoldsWindow s s' rows rows heads heads past oldest window (tells ok) t
            (ap (λ f. window_of f rows) (tells ok) ∙ keys_drop rows (2 ^ s.span) s.puts s.size oldest window (omega (arith, t.size, t.puts)) t.size t.held);
        kept = λ no. told ∙ ap (λ b. cond b (shrunk s) s) no;
      }

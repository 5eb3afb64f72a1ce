-- Calls performed one after the other, of whatever kind, on tables and with a list that are lent. Assumes nothing.
use Rattle.std.proofs.Common.{◌≡◌, ℕ, List, [], ◌∷◌, ◌++◌, length, drop, fold, refl, sym, ap, subst, ◌∙◌}
use Rattle.std.proofs.lemmas.List.Sums.{fold-append}
use Rattle.tally.specs.declared.rows.Head.{Head}
use Rattle.tally.specs.declared.rows.Row.{Row}
use Rattle.keeper.specs.declared.entry.Entry.{Entry}
use Rattle.keeper.specs.declared.lengths.Lengths.{Lengths}
use Rattle.keeper.specs.Figures.{Figures}
use Rattle.traces.specs.Sequences.{AllMeet, AllPerformed}
use Rattle.traces.specs.Stages.{Place}
use Rattle.traces.specs.Traces.{Came}

module _ {A C R : Type 0} (next : A → C → A) (meets : A → C → R → Type 0) where
  -- where all answers meet one thing, they meet what is weaker
  pub all_meet_weaker : {weaker : A → C → R → Type 0} → ((a : A) (call : C) (answer : R) → meets a call answer → weaker a call answer)
      → (a : A) (calls : List C) (answers : List R) → AllMeet next meets a calls answers → AllMeet next weaker a calls answers
  all_meet_weaker implied a [] [] all = tt
  all_meet_weaker implied a [] (answer ∷ answers) all = all
  all_meet_weaker implied a (call ∷ calls) [] all = all
  all_meet_weaker implied a (call ∷ calls) (answer ∷ answers) all = (implied a call answer all.0, all_meet_weaker implied (next a call) calls answers all.1)

  -- one call more
  all_meet_more : (a : A) (calls : List C) (answers : List R) (call : C) (answer : R)
      → AllMeet next meets a calls answers → meets (fold next a calls) call answer → AllMeet next meets a (calls ++ call ∷ []) (answers ++ answer ∷ [])
  all_meet_more a [] [] call answer all met = (met, tt)
  all_meet_more a [] (told ∷ answers) call answer all met = absurd all
  all_meet_more a (first ∷ calls) [] call answer all met = absurd all
  all_meet_more a (first ∷ calls) (told ∷ answers) call answer all met = (all.0, all_meet_more (next a first) calls answers call answer all.1 met)

module _ {S C R : Type 0} (performed : S → C → R → S → Type 0) where
  -- one call more
  pub performed_more : (s s1 s2 : S) (calls : List C) (answers : List R) (call : C) (answer : R)
      → AllPerformed performed s calls answers s1 → performed s1 call answer s2 → AllPerformed performed s (calls ++ call ∷ []) (answers ++ answer ∷ []) s2
  performed_more s s1 s2 [] [] call answer all one = (s2, subst (λ s1. performed s1 call answer s2) all one, refl)
  performed_more s s1 s2 [] (told ∷ answers) call answer all one = absurd all
  performed_more s s1 s2 (first ∷ calls) [] call answer all one = absurd all
  performed_more s s1 s2 (first ∷ calls) (told ∷ answers) call answer all one = (all.0, all.1, performed_more all.0 s1 s2 calls answers call answer all.2 one)

-- `next`, `meets`: the account after a call, and which answers are right. `follows`: a stage stands where the account is. `written`: the
-- list after an answer. `need`: as much of the tables as may change. `begin`: the account at first, with these tables and this list.
module _ {A C R S K : Type 0} (next : A → C → A) (meets : A → C → R → Type 0) (follows : A → S → List (Row K) → List Head → Type 0) (written : List (Entry K) → R → List (Entry K)) (need : Lengths)
    (begin : A) (rows : List (Row K)) (heads : List Head) (list : List (Entry K)) where
  -- how far it has come: these calls are performed
  pub record SoFar (calls : List C) (s : S) (answers : List R) (rows' : List (Row K)) (heads' : List Head) (list' : List (Entry K)) : Type 0 where
    pub right : AllMeet next meets begin calls answers
    pub stands : follows (fold next begin calls) s rows' heads'
    pub list_after : list' ≡ fold written list answers
    pub room : length list' ≡ length list
    pub rows_rest : drop need.rows rows' ≡ drop need.rows rows
    pub heads_rest : drop need.heads heads' ≡ drop need.heads heads

module _ {A C R S K : Type 0} {next : A → C → A} {meets : A → C → R → Type 0} {follows : A → S → List (Row K) → List Head → Type 0} {written : List (Entry K) → R → List (Entry K)} {need : Lengths}
    {begin : A} {rows : List (Row K)} {heads : List Head} {list : List (Entry K)} where
  pub so_far_start : {s : S} → follows begin s rows heads → SoFar next meets follows written need begin rows heads list [] s [] rows heads list
  so_far_start st = record {
    right = tt;
    stands = st;
    list_after = refl;
    room = refl;
    rows_rest = refl;
    heads_rest = refl;
  }

  -- one call more, which is right by the account after those before it
  pub so_far_step : {calls : List C} {s s1 : S} {answers : List R} {rows0 rows1 : List (Row K)} {heads0 heads1 : List Head} {list0 list1 : List (Entry K)} {call : C} {answer : R}
      → SoFar next meets follows written need begin rows heads list calls s answers rows0 heads0 list0
      → meets (fold next begin calls) call answer → follows (next (fold next begin calls) call) s1 rows1 heads1
      → list1 ≡ written list0 answer → length list1 ≡ length list0
      → drop need.rows rows1 ≡ drop need.rows rows0 → drop need.heads heads1 ≡ drop need.heads heads0
      → SoFar next meets follows written need begin rows heads list (calls ++ call ∷ []) s1 (answers ++ answer ∷ []) rows1 heads1 list1
  so_far_step {calls} {answers} {call} {answer} h met st list_after room rows_rest heads_rest = record {
    right = all_meet_more next meets begin calls answers call answer h.right met;
    stands = rw (fold-append next begin calls (call ∷ [])) st;
    list_after = list_after ∙ ap (λ before. written before answer) h.list_after ∙ sym (fold-append written list answers (answer ∷ []));
    room = room ∙ h.room;
    rows_rest = rows_rest ∙ h.rows_rest;
    heads_rest = heads_rest ∙ h.heads_rest;
  }

module _ {P K C R : Type 0} (figures : P → Figures) (holds : P → List (Row K) → List Head → List K → List K → Type 0) (performed : Place P K → C → R → Place P K → Type 0) where
  -- one call more, from a keeper as it was made
  pub came_more : {a k : ℕ} {calls : List C} {rows : List (Row K)} {heads : List Head} {list : List (Entry K)} {answers : List R} {p : Place P K}
      → Came figures holds performed a k calls rows heads list answers p → (q : Place P K) (call : C) (answer : R) → performed p call answer q
      → Came figures holds performed a k (calls ++ call ∷ []) rows heads list (answers ++ answer ∷ []) q
  came_more {calls} {answers} {p} h q call answer one = record { keeper = h.keeper; fresh = h.fresh; all = performed_more performed _ p q calls answers call answer h.all one }

-- The reference model: what each call of a trace has to answer, and what it makes of the account. It is fed the terms and the calls, and no answer. Assumes nothing.
use Rattle.std.specs.Prelude.{◌≡◌, ℕ, ◌<◌, ◌≤◌, Bool, if◌then◌else◌, List, fold, length, Ok, Err, Result}
use Rattle.likeness.specs.Counts.{true_count}
use Rattle.keeper.specs.declared.entry.Entry.{Entry}
use Rattle.keeper.specs.declared.refusal.Refusal.{Refusal}
use Rattle.keeper.specs.declared.refusal.Refusal.TheVariants.{ShortList}
use Rattle.keeper.specs.Refusals.{put_answer, drop_answer, question_answer, count_answer}
use Rattle.keeper.specs.Rules.{Bracket, Lists}
use Rattle.windows.specs.declared.refusal.WindowRefusal.{WindowRefusal}
use Rattle.windows.specs.declared.refusal.WindowRefusal.TheVariants.{Unfit, Unfilled, Keeper}
use Rattle.windows.specs.Refusals.{may_stand, is_full, fill_answer, slide_answer}
use Rattle.traces.specs.declared.calls.Answer.{Answer}
use Rattle.traces.specs.declared.calls.Answer.TheVariants.{Done, Refused, Counted, Listed, NotInTrace}
use Rattle.traces.specs.declared.calls.Call.{Call}
use Rattle.traces.specs.declared.calls.Call.TheVariants.{Fix, Put, DropOldest, Turn, Slide, Count, List as ListAt}
use Rattle.traces.specs.Account.{Terms, State, keeping, filling, sliding, Account, figures_of, took, let_go, turned_to}
use Rattle.traces.specs.Sequences.{AllMeet}

-- what is due at a call: nothing, since the state has no such call; a refusal; that the account becomes another; or a right count, or a right list
pub data Due (K : Type 0) : Type 0 where
  nothing : Due K
  refusal : WindowRefusal → Due K
  change : Account K → Due K
  count_of : K → Due K
  list_at : ℕ → Due K

-- an answer whose list is told another way
abbrev pub told_as : {L M : Type 0} → (L → M) → Answer L → Answer M
told_as tell Done = Done
told_as tell (Refused e) = Refused e
told_as tell (Counted floor ceiling) = Counted floor ceiling
told_as tell (Listed told) = Listed (tell told)
told_as tell NotInTrace = NotInTrace

module _ {K : Type 0} where
  -- what is due where a keeper may refuse
  abbrev pub unless_refused : Result (Unit {0}) Refusal → Due K → Due K
  unless_refused (Ok done) due = due
  unless_refused (Err e) due = refusal (Keeper e)

  -- a question, in any state
  abbrev pub asked : Terms → Account K → Call K → Due K
  asked t a (Count key) = unless_refused (count_answer t.need t.lent tt) (count_of key)
  asked t a (ListAt threshold) = unless_refused (question_answer t.need t.lent (figures_of t a) threshold (Ok tt)) (list_at threshold)
  asked t a other = nothing

  -- a call to a keeper
  abbrev pub due_keeping : Terms → Account K → Call K → Due K
  due_keeping t a (Fix goal) = if may_stand (figures_of t a) goal then change (turned_to a (filling goal)) else refusal Unfit
  due_keeping t a (Put key) = unless_refused (put_answer t.need t.lent (figures_of t a)) (change (took a key))
  due_keeping t a DropOldest = unless_refused (drop_answer (figures_of t a)) (change (let_go a))
  due_keeping t a other = asked t a other

  -- a call to a window that is being filled
  abbrev pub due_filling : Terms → Account K → ℕ → Call K → Due K
  due_filling t a goal (Put key) = unless_refused (fill_answer t.need t.lent (figures_of t a) goal) (change (took a key))
  due_filling t a goal Turn = if is_full (figures_of t a) goal then change (turned_to a (sliding goal)) else refusal Unfilled
  due_filling t a goal other = asked t a other

  -- a call to a window that slides
  abbrev pub due_sliding : Terms → Account K → Call K → Due K
  due_sliding t a (Slide key) = unless_refused (slide_answer t.need t.lent (figures_of t a)) (change (let_go (took a key)))
  due_sliding t a other = asked t a other

  abbrev pub due_in : State → Terms → Account K → Call K → Due K
  due_in keeping t a call = due_keeping t a call
  due_in (filling goal) t a call = due_filling t a goal call
  due_in (sliding goal) t a call = due_sliding t a call

  abbrev pub due : Terms → Account K → Call K → Due K
  due t a call = due_in a.state t a call

  -- the account after a call
  abbrev pub next_by : Account K → Due K → Account K
  next_by a (change a') = a'
  next_by a other = a

  abbrev pub next : Terms → Account K → Call K → Account K
  next t a call = next_by a (due t a call)

  -- the account after calls
  abbrev pub after : Terms → Account K → List (Call K) → Account K
  after t a calls = fold (next t) a calls

  module _ (alike : K → K → Bool) where
    -- a count is right for the window as it is
    abbrev pub CountsRight : Terms → Account K → K → Answer (List (Entry K)) → Type 0
    CountsRight t a key (Counted floor ceiling) = Bracket t.accuracy (length a.window) (true_count alike a.window key) (floor, ceiling)
    CountsRight t a key other = ⊥

    -- a list is right for the window as it is, and there is room for it; or there is a right list that is longer than the room
    abbrev pub ListsRight : Terms → Account K → ℕ → ℕ → Answer (List (Entry K)) → Type 0
    ListsRight t a room threshold (Listed entries) = (length entries ≤ room) × Lists alike t.accuracy threshold a.window entries
    ListsRight t a room threshold (Refused e) = (e ≡ Keeper ShortList) × ((entries : List (Entry K)) × (room < length entries) × Lists alike t.accuracy threshold a.window entries)
    ListsRight t a room threshold other = ⊥

    -- an answer is the one that is due
    abbrev pub Meets : Terms → Account K → ℕ → Due K → Answer (List (Entry K)) → Type 0
    Meets t a room nothing answer = answer ≡ NotInTrace
    Meets t a room (refusal e) answer = answer ≡ Refused e
    Meets t a room (change a') answer = answer ≡ Done
    Meets t a room (count_of key) answer = CountsRight t a key answer
    Meets t a room (list_at threshold) answer = ListsRight t a room threshold answer

    -- calls have one answer each, the one that is due by the account as it is then
    abbrev pub Conform : Terms → ℕ → Account K → List (Call K) → List (Answer (List (Entry K))) → Type 0
    Conform t room a calls answers = AllMeet (next t) (λ a call answer. Meets t a room (due t a call) answer) a calls answers

-- What the run of a trace on soundings promises. Assumes nothing.
use Rattle.std.specs.Prelude.{◌≡◌, ℕ, List, drop, length, fold, map}
use Rattle.likeness.specs.Agree.{same_sounding}
use Rattle.likeness.specs.declared.sounding.SoundingKey.{SoundingKey}
use Rattle.tally.specs.declared.rows.Head.{Head}
use Rattle.tally.specs.declared.rows.Row.{Row}
use Rattle.keeper.specs.declared.entry.Entry.{Entry}
use Rattle.keeper.specs.declared.lengths.Lengths.{Lengths}
use Rattle.keeper.specs.Figures.{Figures}
use Rattle.verdicts.specs.Rules as verdicts
use Rattle.traces.specs.Account.{blank}
use Rattle.traces.specs.Determined.{Determined}
use Rattle.traces.specs.Stages as plain
use Rattle.traces.specs.Stages.{Follows, keeper_of, Place, terms_of}
use Rattle.traces.specs.Traces as plain_traces
use Rattle.traces.specs.Traces.{Came}
use Rattle.sounding_traces.specs.declared.calls.SoundingAnswer.{SoundingAnswer}
use Rattle.sounding_traces.specs.declared.calls.SoundingAnswer.TheVariants.{Answered, Judged}
use Rattle.sounding_traces.specs.declared.calls.SoundingCall.{SoundingCall}
use Rattle.sounding_traces.specs.declared.calls.SoundingCall.TheVariants.{Plain, Ask}
use Rattle.sounding_traces.specs.declared.trace.SoundingTrace.{SoundingTrace}
use Rattle.sounding_traces.specs.Model.{AllGive, Conform, after, told_as}

-- the list after an answer: no verdict writes to it
abbrev pub written : List (Entry SoundingKey) → SoundingAnswer (List (Entry SoundingKey)) → List (Entry SoundingKey)
written list (Answered answer) = plain.written list answer
written list (Judged r) = list

module _ {P : Type 0} (figures : P → Figures) (holds : P → List (Row SoundingKey) → List Head → List SoundingKey → List SoundingKey → Type 0) (need : ℕ → ℕ → Lengths)
    (bracket : P → List (Row SoundingKey) → List Head → SoundingKey → ℕ × ℕ) (listing : P → List (Row SoundingKey) → List Head → ℕ → List (Entry SoundingKey)) where
  -- one call: a plain one, or a verdict, which is the rule's of the keeper's own counts and changes nothing
  abbrev pub Performed : Place P SoundingKey → SoundingCall → SoundingAnswer (List (Entry SoundingKey)) → Place P SoundingKey → Type 0
  Performed p (Plain call) (Answered answer) p' = plain_traces.Performed figures holds need same_sounding bracket listing p call answer p'
  Performed p (Ask sounder class) (Judged r) p' =
      verdicts.Judged figures holds need bracket (keeper_of p.stage) p.rows p.heads sounder class r × (p' ≡ p)
  Performed p call answer p' = ⊥

  -- a whole trace of a setting, on these tables and with this list
  pub record SoundingRuns (a k : ℕ) (calls : List SoundingCall) (rows : List (Row SoundingKey)) (heads : List Head) (list : List (Entry SoundingKey)) (trace : SoundingTrace P) (rows' : List (Row SoundingKey)) (heads' : List Head) (list' : List (Entry SoundingKey)) : Type 0 where
    -- each answer is right by the account as it is then
    pub right : Conform (terms_of need a k rows heads) (length list) blank calls (map (told_as (λ entries. entries.items)) trace.answers.items)
    -- each is the keeper's own, where the call before it left it: counts and lists, and the rule's verdicts of its own counts
    pub own : Came figures holds Performed a k calls rows heads list (map (told_as (λ entries. entries.items)) trace.answers.items) (record { stage = trace.stage; rows = rows'; heads = heads'; list = list' })
    -- and exactly what follows from the account, whatever functions of past and window the keeper's counts and lists follow by
    pub exact : (counts : ℕ → ℕ → List SoundingKey → List SoundingKey → SoundingKey → ℕ × ℕ) (lists : ℕ → ℕ → List SoundingKey → List SoundingKey → ℕ → List (Entry SoundingKey)) → Determined figures holds bracket listing counts lists
        → AllGive (counts a k) (lists a k) (terms_of need a k rows heads) blank calls (map (told_as (λ entries. entries.items)) trace.answers.items)
    -- and the trace ends where the account does
    pub follows : Follows figures holds need (terms_of need a k rows heads) (after (terms_of need a k rows heads) blank calls) trace.stage rows' heads'
    -- the list has the entries of one answer over those of the other; past the need, the tables are as they were
    pub list_after : list' ≡ fold written list (map (told_as (λ entries. entries.items)) trace.answers.items)
    pub rows_rest : drop (need a k).rows rows' ≡ drop (need a k).rows rows
    pub heads_rest : drop (need a k).heads heads' ≡ drop (need a k).heads heads

-- The reference model of traces on soundings: that of plain calls, and verdicts, which leave its account as it is. Assumes nothing.
use Rattle.std.specs.Prelude.{◌≡◌, ℕ, List, fold, length, Ok, Err, Result}
use Rattle.likeness.specs.Agree.{same_sounding}
use Rattle.likeness.specs.Counts.{truly_short}
use Rattle.likeness.specs.declared.sounding.SoundingKey.{SoundingKey}
use Rattle.keeper.specs.declared.entry.Entry.{Entry}
use Rattle.verdicts.specs.declared.judgement.Judgement.{Judgement}
use Rattle.verdicts.specs.declared.refusal.VerdictRefusal.{VerdictRefusal}
use Rattle.verdicts.specs.Refusals.{verdict_answer}
use Rattle.verdicts.specs.Rules.{IsRight}
use Rattle.verdicts.specs.Verdicts.{judged, sums_below}
use Rattle.traces.specs.Account.{Terms, Account}
use Rattle.traces.specs.Determined.{Gives as PlainGives}
use Rattle.traces.specs.Model as plain
use Rattle.traces.specs.Sequences.{AllMeet}
use Rattle.sounding_traces.specs.declared.calls.SoundingAnswer.{SoundingAnswer}
use Rattle.sounding_traces.specs.declared.calls.SoundingAnswer.TheVariants.{Answered, Judged}
use Rattle.sounding_traces.specs.declared.calls.SoundingCall.{SoundingCall}
use Rattle.sounding_traces.specs.declared.calls.SoundingCall.TheVariants.{Plain, Ask}

-- an answer whose list is told another way
abbrev pub told_as : {L M : Type 0} → (L → M) → SoundingAnswer L → SoundingAnswer M
told_as tell (Answered answer) = Answered (plain.told_as tell answer)
told_as tell (Judged r) = Judged r

-- the account after a call, and after calls
abbrev pub next : Terms → Account SoundingKey → SoundingCall → Account SoundingKey
next t a (Plain call) = plain.next t a call
next t a (Ask sounder class) = a

abbrev pub after : Terms → Account SoundingKey → List SoundingCall → Account SoundingKey
after t a calls = fold (next t) a calls

-- whether a verdict is refused
abbrev pub admitted : Terms → ℕ → Result (Unit {0}) VerdictRefusal
admitted t class = verdict_answer t.need t.lent class tt

-- a verdict is given where it is not refused; it is the rule's, of its own sums, and right for the window as it is
abbrev pub VerdictRight : Terms → Account SoundingKey → List ℕ → ℕ → Result Judgement VerdictRefusal → Type 0
VerdictRight t a sounder class (Ok j) =
    (admitted t class ≡ Ok tt)
    × (j ≡ judged (length a.window) (j.floor, j.ceiling))
    × IsRight t.accuracy (length a.window) (truly_short a.window sounder class) class j
VerdictRight t a sounder class (Err e) = admitted t class ≡ Err e

-- an answer is the one that is due
abbrev pub Meets : Terms → ℕ → Account SoundingKey → SoundingCall → SoundingAnswer (List (Entry SoundingKey)) → Type 0
Meets t room a (Plain call) (Answered answer) = plain.Meets same_sounding t a room (plain.due t a call) answer
Meets t room a (Ask sounder class) (Judged r) = VerdictRight t a sounder class r
Meets t room a call answer = ⊥

-- calls have one answer each, the one that is due by the account as it is then
abbrev pub Conform : Terms → ℕ → Account SoundingKey → List SoundingCall → List (SoundingAnswer (List (Entry SoundingKey))) → Type 0
Conform t room a calls answers = AllMeet (next t) (Meets t room) a calls answers

-- counts and lists that are answered are these, in a window of n keys, and verdicts are the rule's of these counts; of other
-- answers nothing is said
abbrev pub Gives : (SoundingKey → ℕ × ℕ) → (ℕ → List (Entry SoundingKey)) → ℕ → SoundingCall → SoundingAnswer (List (Entry SoundingKey)) → Type 0
Gives bracket listing n (Plain call) (Answered answer) = PlainGives bracket listing call answer
Gives bracket listing n (Ask sounder class) (Judged (Ok j)) = j ≡ judged n (sums_below bracket sounder class)
Gives bracket listing n call answer = Unit {0}

-- each answer to calls gives what follows from past and window of the account as it is then
abbrev pub AllGive : (List SoundingKey → List SoundingKey → SoundingKey → ℕ × ℕ) → (List SoundingKey → List SoundingKey → ℕ → List (Entry SoundingKey)) → Terms → Account SoundingKey → List SoundingCall → List (SoundingAnswer (List (Entry SoundingKey))) → Type 0
AllGive counts lists t a calls answers = AllMeet (next t) (λ a call answer. Gives (counts a.past a.window) (lists a.past a.window) (length a.window) call answer) a calls answers

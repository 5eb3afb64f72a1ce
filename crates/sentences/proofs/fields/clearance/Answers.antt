use Rattle.std.proofs.Common.{◌≡◌, ℕ, ◌+◌, ◌≤◌, length, pos, ◌-ℤ◌, Ok, Err, to_z, of_z, w32, sym, ap, ◌∙◌, arith}
use Rattle.std.proofs.lemmas.Int.{ints}
use Rattle.std.proofs.lemmas.Result.{err_from_is_err_and}
use Rattle.sentences.proofs.Clearances.{clearance_past, offset_refused, offset_read}
use Rattle.sentences.proofs.Somes.{some_of_ok, none_of_err}
use Rattle.sentences.proofs.fields.clearance.Goals as goal

difference : (deep keel : ℕ) → deep ≤ 23000100 → keel ≤ 23000100 → to_z w32 (of_z w32 (to_z w32 deep -ℤ to_z w32 keel)) ≡ pos deep -ℤ pos keel
difference deep keel low low' = omega (arith, ints)

pub returns-in_err-keel : goal.returns-in_err-keel
returns-in_err-keel c =
    let refused = err_from_is_err_and c.from_residual-in_err-keel.result c.from_residual-in_err-keel.ensures.1 in
    let deep = some_of_ok _ _ _ c.in_ok-deep.ensures.value in
    let none = none_of_err _ _ _ c.in_err-keel.ensures.value in
    let first = c.in_ok-next.ensures.columns in
    let second = c.in_ok-next-2.ensures.columns in
    let at = 7 + 1 + length c.in_ok-next.field-0.text.now in
    let past = clearance_past 7 c.args.fields.now _ _ _ _ _ c.in_ok-next.ensures.taken deep c.in_ok-next-2.ensures.taken in
    let end = offset_refused at c.in_ok-deep.deep c.in_ok-next-2.field-0.column c.in_ok-next-2.field-0.text.now c.next-2.new.self.rest.now none.0 (omega arith) in
    refused.1 ∙ ap Err (refused.2 ∙ none.1) ∙ sym (past ∙ end)

pub returns : goal.returns
returns c =
    let deep = some_of_ok _ _ _ c.in_ok-deep.ensures.value in
    let keel = some_of_ok _ _ _ c.in_ok-keel.ensures.value in
    let first = c.in_ok-next.ensures.columns in
    let second = c.in_ok-next-2.ensures.columns in
    let at = 7 + 1 + length c.in_ok-next.field-0.text.now in
    let past = clearance_past 7 c.args.fields.now _ _ _ _ _ c.in_ok-next.ensures.taken deep c.in_ok-next-2.ensures.taken in
    let end = offset_read at c.in_ok-deep.deep _ c.next-2.new.self.column c.in_ok-next-2.field-0.text.now c.next-2.new.self.rest.now keel (omega arith) c.in_ok-end.ensures in
    ap Ok (difference _ _ c.in_ok-deep.ensures.bound c.in_ok-keel.ensures.bound) ∙ sym (past ∙ end)

use Rattle.std.proofs.Common.{◌≡◌, ◌+◌, [], ◌∷◌, ◌++◌, length, map, take, refl, arith}
use Rattle.std.proofs.lemmas.Grind.{common_steps}
use Rattle.std.proofs.lemmas.List.{map-append}
use Rattle.traces.specs.Account.{blank}
use Rattle.traces.specs.Model.{told_as}
use Rattle.traces.specs.Stages.{terms_of}
use Rattle.traces.proofs.Progress.{so_far_start}
use Rattle.traces.proofs.Whole.{right_and_exact, trace_step}
use Rattle.traces.proofs.run.run_trace.Goals as goal

pub loop-call-init : goal.loop-call-init
loop-call-init g c =
    rw c.new-answers.ensures.items (
      so_far_start (record { state = refl; terms = rw c.fresh.ensures.tells refl; true_to = c.fresh.ensures.blank c.args.rows.now c.args.heads.now }),
      record { keeper = c.fresh.result; fresh = c.fresh.ensures; all = refl },
    )

pub loop-call-preserved : goal.loop-call-preserved
loop-call-preserved g c =
    let t = terms_of g.P.Record.need c.args.setting.accuracy c.args.setting.span c.args.rows.now c.args.heads.now in
    let one_more : take (c.loop-call.call-index + 1) c.args.calls.now ≡ take c.loop-call.call-index c.args.calls.now ++ c.call-item.result ∷ [] = grind (arith, common_steps) in
    let next = trace_step g.P.Record.figures g.P.Keeper.holds g.P.Record.need g.K.Likeness.alike g.P.Keeper.bracket g.P.Keeper.listing t c.loop-call.invariant
    (record { stage = c.in_ok-next.next; rows = c.perform.new.rows; heads = c.perform.new.heads; list = c.perform.new.list }) c.call-item.result _ c.in_ok-next.ensures c.perform.auto.list in
    rw one_more (rw c.in_ok-push.ensures.items (rw (map-append (told_as (λ entries. entries.items)) c.loop-call.answers.items _) next))

pub returns : goal.returns
returns g c =
    let t = terms_of g.P.Record.need c.args.setting.accuracy c.args.setting.span c.args.rows.now c.args.heads.now in
    let answers = map (told_as (λ entries. entries.items)) c.loop-call.answers.items in
    let all_done : take c.loop-call.call-index c.args.calls.now ≡ c.args.calls.now = grind (arith, common_steps) in
    let h = rw all_done at c.loop-call.invariant in
    let all = right_and_exact g.P.Record.figures g.P.Keeper.holds g.P.Record.need g.K.Likeness.alike g.P.Keeper.bracket g.P.Keeper.listing t (length c.args.list.now) blank c.args.calls.now answers h.0.right in
    record { right = all.0; own = h.1; exact = all.1; follows = h.0.stands; list_after = h.0.list_after; rows_rest = h.0.rows_rest; heads_rest = h.0.heads_rest }

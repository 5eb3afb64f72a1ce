use Rattle.std.proofs.Common.{◌≡◌, length, is_ok, refl, ap, ◌∙◌, subst}
use Rattle.tally.specs.Slots.{over}
use Rattle.ring.specs.Rings.{window_of, listing_of}
use Rattle.likeness.specs.Agree.{same_kind}
use Rattle.kinds.specs.Kinds.{kinds_in, threshold_of}
use Rattle.kinds.proofs.Settled.{lists}
use Rattle.kinds.proofs.kinds.Kinds.list.Goals as goal

pub unwrap-requires : goal.unwrap-requires
unwrap-requires c =
    let threshold = c.eighth-threshold.ensures ∙ ap threshold_of c.size.ensures.value in
    rw (lists c.self.inside.window c.self.invariant c.list.result c.eighth-threshold.result (length c.args.list.now) threshold (rw c.size.ensures.value at c.size.ensures.within) c.told-list c.list.ensures.answer) refl

pub returns-clause-written : goal.returns-clause-written
returns-clause-written c =
    let threshold = c.eighth-threshold.ensures ∙ ap threshold_of c.size.ensures.value in
    subst (λ k. c.list.new.list ≡ over (kinds_in k.window.keeper.size (window_of k.window.keeper k.rows)) c.args.list.now) c.self.view_is
    (subst (λ t. c.list.new.list ≡ over (listing_of (λ x y. same_kind x.bytes y.bytes) (window_of c.self.inside.window.window.keeper c.self.inside.window.rows) t) c.args.list.now) threshold
    (c.list.ensures.listed.written (ap is_ok c.unwrap.ensures)))

pub returns-clause-named : goal.returns-clause-named
returns-clause-named c =
    let threshold = c.eighth-threshold.ensures ∙ ap threshold_of c.size.ensures.value in
    let named = lists c.self.inside.window c.self.invariant c.list.result c.eighth-threshold.result (length c.args.list.now) threshold (rw c.size.ensures.value at c.size.ensures.within) c.told-list c.list.ensures.answer in
    subst (λ k. c.unwrap.result ≡ length (kinds_in k.window.keeper.size (window_of k.window.keeper k.rows))) c.self.view_is (cc (named, c.unwrap.ensures))

use Rattle.std.proofs.Common.{◌≡◌, ◌-◌, ◌^◌, ◌≤◌, ◌++◌, take, drop, refl, ap, sym, subst, ◌∙◌, arith}
use Rattle.std.proofs.lemmas.Nat.{pow_pos}
use Rattle.std.proofs.lemmas.List.{append-nil, map-append}
use Rattle.keeper.specs.Listing.{keys_in}
use Rattle.keeper.specs.Figures.{Figures, InRange}
use Rattle.ring.specs.declared.figures.Ring.TheInside.{Inside}
use Rattle.ring.specs.Inside.{figures_in}
use Rattle.ring.proofs.Rounds.{window_once, window_twice}
use Rattle.ring.proofs.figures.Ring.window.Goals as goal

-- the figures keep the range that the fields do
range : (r : Inside) (f : Figures) → figures_in r ≡ f → InRange (figures_in r) → (f.size ≤ f.puts) × (f.size ≤ 2 ^ f.span) × (r.size ≡ f.size)
range r f same fits = subst (λ s. (s.size ≤ s.puts) × (s.size ≤ 2 ^ s.span) × (r.size ≡ s.size)) same (fits.came, fits.stored, refl)

pub returns-then-size-end : goal.returns-then-size-end
returns-then-size-end g c =
    let f = c.args.self.now in
    let end = c.next_row-end in
    let fits = range c.self.inside f c.self.view_is c.self.invariant in
    let long : end.result - (end.result - c.self.inside.size) ≡ f.size = omega (arith, fits.2) in
    append-nil _
    ∙ (λ t. keys_in (take (long t) (drop (end.result - fits.2 t) c.args.rows.now)))
    ∙ window_once c.args.rows.now f.puts f.size (2 ^ f.span) end.result (pow_pos _) fits.0 fits.1 end.ensures.value (omega (arith, fits.2))

pub returns : goal.returns
returns g c =
    let f = c.args.self.now in
    let end = c.next_row-end in
    let all = c.capacity-capacity in
    let fits = range c.self.inside f c.self.view_is c.self.invariant in
    let start : all.result - (c.self.inside.size - end.result) ≡ 2 ^ f.span - (f.size - end.result) = omega (arith, fits.2, all.ensures.value) in
    let long : all.result - (all.result - (c.self.inside.size - end.result)) ≡ f.size - end.result = omega (arith, fits.2, all.ensures.value, fits.1) in
    ap (λ keys. keys_in (take (all.result - (all.result - (c.self.inside.size - end.result))) (drop (all.result - (c.self.inside.size - end.result)) c.args.rows.now)) ++ keys) (append-nil (keys_in (take end.result c.args.rows.now)))
    ∙ sym (map-append (λ row. row.key) (take (all.result - (all.result - (c.self.inside.size - end.result))) (drop (all.result - (c.self.inside.size - end.result)) c.args.rows.now)) (take end.result c.args.rows.now))
    ∙ ap keys_in (λ t. take (long t) (drop (start t) c.args.rows.now) ++ take end.result c.args.rows.now)
    ∙ window_twice c.args.rows.now f.puts f.size (2 ^ f.span) end.result (pow_pos _) fits.0 fits.1 end.ensures.value (omega (arith, fits.2))

use Rattle.std.proofs.Common.{rules, sym}
use Rattle.std.proofs.lemmas.List.{with_items_is, places}
use Rattle.latest.specs.WithTables.{InTables}
use Rattle.latest.proofs.InTables.{takes}
use Rattle.latest.proofs.with_tables.WithTables.take.Goals as goal

pub returns-in-Ok : goal.returns-in-Ok
returns-in-Ok g c =
    let before : InTables _ _ = record { window = c.self.inside.window; rows = c.self.inside.rows.items; heads = c.self.inside.heads.items } in
    let after : InTables _ _ = record { window = c.in-Ok.window; rows = c.take.new.rows; heads = c.take.new.heads } in
    rw (
      sym c.self.view_is,
      with_items_is c.self.inside.rows c.take.new.rows (search (rules, places)),
      with_items_is c.self.inside.heads c.take.new.heads (search (rules, places)),
    )
    (takes g.P.Record.figures g.P.Keeper.holds g.P.Record.need before c.self.invariant c.args.key after
    (rw (c.replace-window.ensures.value, c.deref_mut.ensures.value, c.deref_mut-2.ensures.value) at c.in-Ok.ensures))

use Rattle.std.proofs.Common.{◌≡◌, length, take}
use Rattle.tally.specs.Steps.{run}
use Rattle.tally.specs.Slots.{room, held, head_of}
use Rattle.tally.proofs.tally.Tally.fill.Given as goal

abbrev pub invariant-loop-key : goal.invariant-loop-key
invariant-loop-key g l =
    let done = run g.K.Likeness.alike (room l.initial.self.rows.now) (take l.key-index l.keys) in
    record {
      named : l.self.rows.ghost_name ≡ l.initial.self.rows.ghost_name;
      long : length l.self.rows.now ≡ length l.initial.self.rows.now;
      head : l.self.head ≡ head_of done;
      held : held l.self.rows.now l.self.head ≡ done;
    }

-- Where there is room for all slots, there is for each. Assumes nothing.
use Rattle.std.proofs.Common.{◌≡◌, List, length, arith}
use Rattle.tally.specs.declared.rows.Head.{Head}
use Rattle.tally.specs.declared.rows.Row.{Row}
use Rattle.layout.specs.Slots.{Shape}
use Rattle.layout.specs.Blocks.{Stretch, slot_of}
use Rattle.layout.specs.Laws.{IsBlock}
use Rattle.layout.proofs.SlotsOfBlocks.{rows_filled, heads_filled}
use Rattle.ladder.specs.Tables.{HasRoom, Lies}

module _ {K : Type 0} (shape : Shape) where
  pub slot_lies : (rows : List (Row K)) (heads : List Head) → HasRoom shape rows heads → (b : Stretch) → IsBlock shape b → Lies (slot_of b) rows heads
  slot_lies rows heads room b is = record {
    rows_there = omega (arith, room.enough_rows, (rows_filled shape).within b is);
    head_there = omega (arith, room.enough_heads, (heads_filled shape).within b is);
  }

  -- tables that keep their lengths keep their room
  pub room_kept : (rows rows' : List (Row K)) (heads heads' : List Head) → length rows' ≡ length rows → length heads' ≡ length heads → HasRoom shape rows heads → HasRoom shape rows' heads'
  room_kept rows rows' heads heads' same_rows same_heads room = record {
    enough_rows = omega (arith, room.enough_rows, same_rows);
    enough_heads = omega (arith, room.enough_heads, same_heads);
  }

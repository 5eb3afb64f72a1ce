use Rattle.std.proofs.Common.{◌≡◌, ◌<◌, [], ◌++◌, length, take, get_or, string_bytes, sym, ap, ◌∙◌}
use Rattle.std.specs.List.{All, flat_map}
use Rattle.std.proofs.Math.Seq.{take-append_seam}
use Rattle.std.proofs.lemmas.List.{flat_map_more, take_more}
use Rattle.likeness.specs.declared.address.AddressKey.{AddressKey}
use Rattle.keeper.specs.declared.entry.Entry.{Entry}
use Rattle.ring.specs.Rings.{window_of}
use Rattle.kinds.specs.Kinds.{IsAscii, kinds_in}
use Rattle.kinds.specs.Printed.{kind_text}
use Rattle.kinds.proofs.Addresses.{kinds_ascii}
use Rattle.kinds.proofs.kinds.KindsCounter.print_end.Goals as goal

pub loop-entry-preserved : goal.loop-entry-preserved
loop-entry-preserved c values right =
    let kinds = c.args.self.now in
    let listed = kinds_in kinds.window.keeper.size (window_of kinds.window.keeper kinds.rows) in
    let items = take c.list-named.result c.list-named.new.list in
    let at = c.loop-entry.entry-index in
    let none : Entry AddressKey = record { key = record { bytes = [] }; floor = 0; ceiling = 0 } in
    let same : items ≡ listed = ap (λ n. take n c.list-named.new.list) c.list-named.ensures.named ∙ ap (take (length listed)) c.list-named.ensures.written ∙ take-append_seam listed _ in
    let within : at < length items = c.loop-entry-test.true in
    let ascii : All (λ e. IsAscii e.key) items = rw same (kinds_ascii kinds values right kinds.window.keeper.size) in
    c.in_ok-print_kind.ensures (ascii at none within)
    ∙ ap (λ t. t ++ kind_text (get_or items at none)) (c.loop-entry.invariant values right)
    ∙ flat_map_more kind_text (string_bytes c.args.out.now) (take at items) (get_or items at none)
    ∙ ap (λ es. string_bytes c.args.out.now ++ flat_map kind_text es) (sym (take_more items at none within))

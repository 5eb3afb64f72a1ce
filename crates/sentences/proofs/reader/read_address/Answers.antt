use Rattle.sentences.proofs.Decided.{address_decided}
use Rattle.sentences.proofs.Laws.{address_exactly, address_first_wrong}
use Rattle.sentences.proofs.reader.read_address.Goals as goal

pub returns : goal.returns
returns c =
    let bytes = c.args.bytes.now in
    let value = c.parse_address.ensures in
    record {
      value = value;
      exactly = address_exactly bytes _ value;
      wrong = address_first_wrong bytes _ value;
      decided = address_decided bytes;
    }

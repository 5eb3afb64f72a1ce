use Rattle.sentences.proofs.Decided.{reading_decided}
use Rattle.sentences.proofs.Laws.{reading_exactly, reading_first_wrong}
use Rattle.sentences.proofs.reader.read_depth.Goals as goal

pub returns : goal.returns
returns c =
    let bytes = c.args.bytes.now in
    let value = c.parse_depth.ensures in
    record {
      value = value;
      exactly = reading_exactly bytes _ value;
      wrong = reading_first_wrong bytes _ value;
      decided = reading_decided bytes;
    }

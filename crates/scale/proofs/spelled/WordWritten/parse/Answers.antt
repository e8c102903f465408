use Rattle.scale.specs.Spelled.{word_texts}
use Rattle.scale.proofs.Parses.{parsed_is}
use Rattle.scale.proofs.spelled.WordWritten.parse.Goals as goal

pub returns : goal.returns
returns c = parsed_is word_texts c.args.bytes.now c.word_spelled.result c.word_spelled.ensures

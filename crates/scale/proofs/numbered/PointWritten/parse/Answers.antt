use Rattle.scale.specs.Numbered.{point_texts}
use Rattle.scale.proofs.Parses.{parsed_is}
use Rattle.scale.proofs.numbered.PointWritten.parse.Goals as goal

pub returns : goal.returns
returns c = parsed_is point_texts c.args.bytes.now c.point_numbered.result c.point_numbered.ensures

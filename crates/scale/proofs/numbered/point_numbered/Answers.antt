use Rattle.std.proofs.Common.{◌≡◌, [], ◌∷◌, sym, ◌∙◌, arith, rules}
use Rattle.std.proofs.lemmas.Slice.Eq.{text_from_reads}
use Rattle.scale.proofs.Shapes.{from_one, from_two, hundred}
use Rattle.scale.proofs.numbered.point_numbered.Goals as goal

pub returns-in-48-to-57 : goal.returns-in-48-to-57
returns-in-48-to-57 c = from_one c.args.bytes.now c.new.result.value (search rules) (search rules)

pub returns-in-49-to-57 : goal.returns-in-49-to-57
returns-in-49-to-57 c = from_two c.args.bytes.now c.new-in-49-to-57.result.value (search rules) (search rules)

pub returns-in-49 : goal.returns-in-49
returns-in-49 c =
    let e : c.args.bytes.now ≡ 49 ∷ 48 ∷ 48 ∷ [] = search (rules, text_from_reads) in
    let k = c.new-in-49.ensures in
    e ∙ sym (hundred c.new-in-49.result.value (omega arith) (omega arith))

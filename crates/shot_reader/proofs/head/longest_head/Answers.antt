use Rattle.std.proofs.Common.{◌≡◌, ◌∙◌}
use Rattle.oas_lex.specs.ShotText.{head}
use Rattle.shot_reader.proofs.Alikes.{alike_of, begins_by}
use Rattle.shot_reader.proofs.head.longest_head.Goals as goal

text : (c : goal.After-in_common) → c.bytes.result.now ≡ head c.nearest_unit.result
text c = c.bytes.ensures.value ∙ c.head_text-spelled.ensures

pub returns-clause-begins : goal.returns-clause-begins
returns-clause-begins c =
    begins_by c.args.bytes.now c.nearest_unit.result c.in_common.result c.nearest_unit.ensures.unit (rw (text c) at c.in_common.ensures.alike)

pub returns-clause-longest : goal.returns-clause-longest
returns-clause-longest c = λ n b.
    c.in_common.ensures.longest n (rw (text c) (c.nearest_unit.ensures.nearest b.unit n b.unit_fits (alike_of c.args.bytes.now n b)))

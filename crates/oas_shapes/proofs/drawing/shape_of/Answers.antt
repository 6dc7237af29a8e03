use Rattle.std.proofs.Common.{◌≡◌, sym}
use Rattle.oas_shapes.proofs.drawing.shape_of.Goals as goal
use Rattle.oas_shapes.proofs.EdgeLemmas.{no_slant}
use Rattle.oas_shapes.proofs.ShapeLemmas.{slanted}

pub returns-in-Err-Slant-clause-slant : goal.returns-in-Err-Slant-clause-slant
returns-in-Err-Slant-clause-slant c = λ rule e.
    let same : 6 ≡ rule = cc in
    (sym same, slanted c.args.outline.now c.in-Err-Slant.field-0-0 ((c.new.ensures.slant c.in-Err-Slant.field-0-0).0 (cc)))

pub returns-in-Err-NoMemory-clause-memory : goal.returns-in-Err-NoMemory-clause-memory
returns-in-Err-NoMemory-clause-memory c = λ e.
    no_slant c.args.outline.now (λ k first. absurd (let told = (c.new.ensures.slant k).1 first in cc))

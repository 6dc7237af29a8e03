use Rattle.std.proofs.Common.{arith}
use Rattle.std.proofs.lemmas.Int.{ints}
use Rattle.gds_reader.proofs.elements.Element.brush.Goals as goal

pub returns-clause-near : goal.returns-clause-near
returns-clause-near c = record {
  low = omega (arith, ints, c.half_width.ensures.low);
  half = record { low = omega (arith, ints, c.half_width.ensures.near); high = omega (arith, ints, c.half_width.ensures.near) };
  begin = record { low = omega (arith, ints, c.extension.ensures.near); high = omega (arith, ints, c.extension.ensures.near) };
  end = record { low = omega (arith, ints, c.extension-2.ensures.near); high = omega (arith, ints, c.extension-2.ensures.near) };
}

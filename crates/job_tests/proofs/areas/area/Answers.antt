use Rattle.std.proofs.Common.{arith}
use Rattle.std.proofs.lemmas.Int.{ints}
use Rattle.job_tests.proofs.areas.area.Goals as goal

pub area-requires-clause-band : goal.area-requires-clause-band
area-requires-clause-band g c = record {
  is_band = record {
    low = record { low = omega (arith, ints); high = omega (arith, ints) };
    high = record { low = omega (arith, ints); high = omega (arith, ints) };
    has_rows = omega (arith, ints);
  };
  few = omega (arith, ints);
}

use Rattle.std.proofs.Common.{refl, [], ◌∷◌, arith}
use Rattle.oas_record.proofs.RepLemmas.{one, two}
use Rattle.oas_record.proofs.ValueLemmas.{bounds_one, bounds_two}
use Rattle.oas_record.proofs.values.bounds_at.Goals as goal

pub returns-in_ok-a-in-1-to-3-clause-ok : goal.returns-in_ok-a-in-1-to-3-clause-ok
returns-in_ok-a-in-1-to-3-clause-ok c =
    rw (bounds_one c.args.kind (omega (arith, c.in-1-to-3)) (omega (arith, c.in-1-to-3)))
    (c.in_ok-a-in-1-to-3.a ∷ [], refl, one c.args.bytes.now c.args.at c.in_ok-a-in-1-to-3.a c.in_ok-a-in-1-to-3.next c.in_ok-a-in-1-to-3.ensures.ok, refl, refl)

pub returns-in_ok-b-in-4-clause-ok : goal.returns-in_ok-b-in-4-clause-ok
returns-in_ok-b-in-4-clause-ok c =
    rw (bounds_two c.args.kind (omega (arith, c.in-4))) (
      c.in_ok-a-in-4.a ∷ c.in_ok-b-in-4.b ∷ [],
      refl,
      two c.args.bytes.now c.args.at c.in_ok-a-in-4.a c.in_ok-a-in-4.mid c.in_ok-b-in-4.b c.in_ok-b-in-4.next
          c.in_ok-a-in-4.ensures.ok c.in_ok-b-in-4.ensures.ok,
      refl,
      refl,
    )

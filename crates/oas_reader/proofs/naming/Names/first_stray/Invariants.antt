use Rattle.std.proofs.Common.{◌≡◌}
use Rattle.oas_reader.specs.Names.{is_none}
use Rattle.oas_reader.specs.Naming.{given_in, first_marked}
use Rattle.oas_reader.proofs.naming.Names.first_stray.Given as goal

abbrev pub invariant-loop-number : goal.invariant-loop-number
invariant-loop-number l =
    (goal.iterator-loop-number).can_next l.number-iterator × (goal.iterator-loop-number).is_finite l.number-iterator
    × (
    first_marked (λ number. is_none (given_in l.self number)) l.number-iterator
    ≡ first_marked (λ number. is_none (given_in l.self number)) l.self.used.entries
    )

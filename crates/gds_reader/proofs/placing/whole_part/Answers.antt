use Rattle.std.proofs.Common.{◌≡◌, ◌*◌, ◌%◌, ◌/◌, subst, sym}
use Rattle.std.specs.Prelude.{◌≢◌}
use Rattle.gds_reader.specs.Steppings.{IsEvenPart}
use Rattle.gds_reader.proofs.placing.whole_part.Goals as goal
use Rattle.gds_reader.proofs.StepLemmas.{even_part, no_even_part}

pub returns-then-length-double-ne0-clause-none : goal.returns-then-length-double-ne0-clause-none
returns-then-length-double-ne0-clause-none c =
    let count : c.from-double.result ≡ c.args.count = c.from-double.ensures in
    let inexact : c.args.length % (2 * c.args.count) ≢ 0 = subst (λ n. c.args.length % (2 * n) ≢ 0) count c.if-length-double-ne0.true in
    no_even_part c.args.length c.args.count inexact

pub returns-clause-part : goal.returns-clause-part
returns-clause-part c =
    let count : c.from-double.result ≡ c.args.count = c.from-double.ensures in
    let exact : c.args.length % (2 * c.args.count) ≡ 0 = subst (λ n. c.args.length % (2 * n) ≡ 0) count c.if-length-double-ne0.false in
    subst (λ n. IsEvenPart c.args.count c.args.length (c.args.length / (2 * n) * 2)) (sym count) (even_part c.args.length c.args.count c.requires.some exact)

use Rattle.std.proofs.Common.{rules, refl, ◌-ℤ◌, FitsSigned, w64}
use Rattle.std.proofs.lemmas.Int.{to_z-of_z}
use Rattle.field_output.proofs.PlaceLemmas.{place_low, place_high, gap_fits}
use Rattle.field_output.proofs.places.Span.above_first.Goals as goal

pub overflow_sub-result : goal.overflow_sub-result
overflow_sub-result c =
    let stripe : FitsSigned w64 c.stripe_of.result = search rules in
    let first : FitsSigned w64 c.args.self.first = search rules in
    let row : FitsSigned w64 c.args.y = search rules in
    let is = simp to_z-of_z at c.stripe_of.ensures in
    let gap : FitsSigned w64 (c.stripe_of.result -ℤ c.args.self.first) = rw is
    (gap_fits c.args.self.size c.args.self.first c.args.y c.args.self.count c.args.self.positive c.args.self.few c.requires.low c.requires.high) in
    simp to_z-of_z gap

pub returns-clause-value : goal.returns-clause-value
returns-clause-value c =
    let stripe : FitsSigned w64 c.stripe_of.result = search rules in
    let first : FitsSigned w64 c.args.self.first = search rules in
    let row : FitsSigned w64 c.args.y = search rules in
    let is = simp to_z-of_z at c.stripe_of.ensures in
    let gap : FitsSigned w64 (c.stripe_of.result -ℤ c.args.self.first) = rw is
    (gap_fits c.args.self.size c.args.self.first c.args.y c.args.self.count c.args.self.positive c.args.self.few c.requires.low c.requires.high) in
    simp to_z-of_z (rw is refl)

pub returns-clause-low : goal.returns-clause-low
returns-clause-low c =
    let stripe : FitsSigned w64 c.stripe_of.result = search rules in
    let first : FitsSigned w64 c.args.self.first = search rules in
    let row : FitsSigned w64 c.args.y = search rules in
    let is = simp to_z-of_z at c.stripe_of.ensures in
    let gap : FitsSigned w64 (c.stripe_of.result -ℤ c.args.self.first) = rw is
    (gap_fits c.args.self.size c.args.self.first c.args.y c.args.self.count c.args.self.positive c.args.self.few c.requires.low c.requires.high) in
    simp to_z-of_z (rw is (place_low c.args.self.size c.args.self.first c.args.y c.args.self.positive c.requires.low))

pub returns-clause-high : goal.returns-clause-high
returns-clause-high c =
    let stripe : FitsSigned w64 c.stripe_of.result = search rules in
    let first : FitsSigned w64 c.args.self.first = search rules in
    let row : FitsSigned w64 c.args.y = search rules in
    let is = simp to_z-of_z at c.stripe_of.ensures in
    let gap : FitsSigned w64 (c.stripe_of.result -ℤ c.args.self.first) = rw is
    (gap_fits c.args.self.size c.args.self.first c.args.y c.args.self.count c.args.self.positive c.args.self.few c.requires.low c.requires.high) in
    simp to_z-of_z (rw is (place_high c.args.self.size c.args.self.first c.args.y c.args.self.count c.args.self.positive c.requires.high))

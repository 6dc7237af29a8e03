use Rattle.std.proofs.Common.{FitsSigned, w64, rules}
use Rattle.std.proofs.lemmas.Int.{to_z-of_z}
use Rattle.plane_sweep.proofs.LowestSoFar.{opened_within, lower_than}
use Rattle.plane_sweep.proofs.lowest_tile.lower_at.Goals as goal

pub place_of-requires-clause-bottom : goal.place_of-requires-clause-bottom
place_of-requires-clause-bottom c =
    let fits : FitsSigned w64 c.in-Some.opened.since = search rules in
    rw (to_z-of_z w64 c.in-Some.opened.since fits) (opened_within c.requires.0 c.args.line c.in-Some.opened c.in-Some.is c.requires.1).bottom

pub place_of-requires-clause-top : goal.place_of-requires-clause-top
place_of-requires-clause-top c =
    let fits : FitsSigned w64 c.in-Some.opened.since = search rules in
    rw (to_z-of_z w64 c.in-Some.opened.since fits) (opened_within c.requires.0 c.args.line c.in-Some.opened c.in-Some.is c.requires.1).top

pub place_of-requires-clause-row : goal.place_of-requires-clause-row
place_of-requires-clause-row c =
    let fits : FitsSigned w64 c.in-Some.opened.since = search rules in
    rw (to_z-of_z w64 c.in-Some.opened.since fits) (opened_within c.requires.0 c.args.line c.in-Some.opened c.in-Some.is c.requires.1).row

pub place_of-requires-clause-next_row : goal.place_of-requires-clause-next_row
place_of-requires-clause-next_row c =
    let fits : FitsSigned w64 c.in-Some.opened.since = search rules in
    rw (to_z-of_z w64 c.in-Some.opened.since fits) (opened_within c.requires.0 c.args.line c.in-Some.opened c.in-Some.is c.requires.1).next_row

pub returns : goal.returns
returns c = λ traps top h.
    let row : FitsSigned w64 c.in-Some.opened.since = search rules in
    let number : FitsSigned w64 c.place_of.result = search rules in
    let at = simp to_z-of_z at c.place_of.ensures in
    let low = c.lower.ensures in
    lower_than traps top c.args.line c.in-Some.opened c.in-Some.is c.args.found c.lower.result
    (rw (to_z-of_z w64 c.place_of.result number, to_z-of_z w64 c.in-Some.opened.since row, at) at low.either)
    (rw (to_z-of_z w64 c.place_of.result number, to_z-of_z w64 c.in-Some.opened.since row, at) at low.new) low.old h

use Rattle.std.proofs.Common.{w64, FitsSigned, rules}
use Rattle.std.proofs.lemmas.Int.{to_z-of_z}
use Rattle.square_size.specs.Shrinking.{rows_of}
use Rattle.square_size.proofs.BandLemmas.{in_found, lines_at_top, over_meets, over_is_shot, over_has_all}
use Rattle.square_size.proofs.shrinking.over_meeting.Goals as goal

pub meeting_y-requires-clause-first : goal.meeting_y-requires-clause-first
meeting_y-requires-clause-first c = (lines_at_top (rows_of c.args.band.now) c.requires.band c.requires.rows c.requires.top).0

pub meeting_y-requires-clause-second : goal.meeting_y-requires-clause-second
meeting_y-requires-clause-second c = (lines_at_top (rows_of c.args.band.now) c.requires.band c.requires.rows c.requires.top).1

pub returns-in_default : goal.returns-in_default
returns-in_default c = absurd (over_meets (rows_of c.args.band.now) c.requires.bottom c.requires.top c.in_default.ensures.parallel)

pub of-requires : goal.of-requires
of-requires c =
    let y : FitsSigned w64 c.in-Some.y = search rules in
    let end : FitsSigned w64 c.args.band.now.y1 = search rules in
    simp to_z-of_z (over_is_shot (rows_of c.args.band.now) c.in-Some.y c.requires.band c.requires.rows c.requires.bottom c.requires.top
    c.in-Some.ensures.meets.here)

pub returns : goal.returns
returns c = λ t.
    let y : FitsSigned w64 c.in-Some.y = search rules in
    let end : FitsSigned w64 c.args.band.now.y1 = search rules in
    let made = simp to_z-of_z at c.of.ensures in
    in_found (rows_of c.args.band.now) _ c.of.result t made
    (over_has_all (rows_of c.args.band.now) c.in-Some.y t c.requires.rows c.requires.bottom c.requires.top c.in-Some.ensures.meets.here)

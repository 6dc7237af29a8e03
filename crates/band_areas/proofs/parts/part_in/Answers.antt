use Rattle.band_areas.proofs.PartLemmas.{part_joined}
use Rattle.band_areas.proofs.parts.part_in.Goals as goal

pub returns-clause-part : goal.returns-clause-part
returns-clause-part c = λ p k part.
    let cut = rw c.as_slice.ensures.value at c.in_ok-traps.ensures.cut in
    record {
      sound = record { shots = c.in_ok-traps.ensures.shots; rows = c.requires.rows };
      joined = part_joined p k c.args.part.now.rows c.args.rows c.requires.within c.args.part.now.traps.items
          c.in_ok-traps.traps.items part.joined (cut c.args.part.now.rows part.joined.joined);
    }

use Rattle.std.proofs.Common.{[], refl}
use Rattle.geo_stream.specs.Flattened.{end_to_end}
use Rattle.geo_stream.proofs.ForCallers.{listed}
use Rattle.geo_stream.proofs.flattened.Flattened.new.Goals as goal

pub returns-clause-some_list : goal.returns-clause-some_list
returns-clause-some_list g c = λ streams given each.
    let lists = listed g.S.Item.Stream.stands_for streams each in
    (end_to_end lists.0, record { front = []; streams = streams; lists = lists.0; is = refl; first = refl; given = given; each = lists.1 })

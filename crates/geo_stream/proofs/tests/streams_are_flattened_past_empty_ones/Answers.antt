use Rattle.std.proofs.Common.{refl}
use Rattle.geo_stream.proofs.tests.streams_are_flattened_past_empty_ones.Goals as goal

pub gives-requires : goal.gives-requires
gives-requires g c = c.new-8.ensures.some_list _ c.new-7.ensures.list (λ k d below. (_, refl))

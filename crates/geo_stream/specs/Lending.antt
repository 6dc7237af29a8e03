-- An item of a list that is lent.
use Rattle.std.specs.Prelude.{ℕ, slice_set}
use Rattle.std.specs.Borrow.{Lends, Fml, MutBor, RattleType}
use Rattle.geo_stream.specs.contracts.list.List.{the_row}

-- the list ends with item k as it was last written through r, and all others as they were
abbrev pub LendsItem : (T : RattleType) → MutBor (the_row T).Denot → ℕ → MutBor T.Denot → Fml
LendsItem T list k r = Lends (the_row T) T list r (slice_set list.now k)

use Rattle.std.specs.Ordering.{nat_cmp}
use Rattle.geo_stream.specs.Merged.{merge}
use Rattle.field_output.proofs.NumberLemmas.{ascending_sorted}
use Rattle.field_output.proofs.ChainLemmas.{chain_ascends}
use Rattle.field_output.proofs.filling.fill_merged.Goals as goal

pub new-merged-requires : goal.new-merged-requires
new-merged-requires c =
    let ns = c.requires.chain.0 in (
      c.args.carried.now,
      ns,
      c.new.ensures.list,
      c.new-2.ensures ns c.requires.chain.1,
      c.requires.carried,
      ascending_sorted 0 ns
          (chain_ascends c.args.next.now 0 c.args.head ns c.requires.chain.1),
    )

pub fill-requires : goal.fill-requires
fill-requires c =
    let ns = c.requires.chain.0 in (
      merge nat_cmp c.args.carried.now ns,
      c.new-merged.ensures.list c.args.carried.now ns c.new.ensures.list
          (c.new-2.ensures ns c.requires.chain.1),
      c.requires.room ns c.requires.chain.1,
    )

pub returns-clause-merged : goal.returns-clause-merged
returns-clause-merged c = λ ns chain. c.fill.ensures.items (merge nat_cmp c.args.carried.now ns)
    (c.new-merged.ensures.list c.args.carried.now ns c.new.ensures.list (c.new-2.ensures ns chain))

use Rattle.std.proofs.Common.{arith}
use Rattle.depot.proofs.FilingLemmas.{files_of-set, place-set, place_within, name_read}
use Rattle.depot.proofs.filing.replace.Goals as goal

pub index_mut-requires : goal.index_mut-requires
index_mut-requires c = omega (arith, place_within c.args.files.now.items _ _ c.requires, c.args.files.now.ok)

pub returns-clause-files : goal.returns-clause-files
returns-clause-files c =
    files_of-set c.args.files.now.items _ _ _ c.requires (name_read c.args.files.now.items _ _ c.index_mut.result.now c.requires c.index_mut.ensures.value)

pub returns-clause-place : goal.returns-clause-place
returns-clause-place c =
    place-set c.args.files.now.items _ _ _ c.requires (name_read c.args.files.now.items _ _ c.index_mut.result.now c.requires c.index_mut.ensures.value)

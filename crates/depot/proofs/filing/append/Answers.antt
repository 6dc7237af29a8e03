use Rattle.std.proofs.Common.{arith}
use Rattle.depot.specs.Filing.{name_at}
use Rattle.depot.proofs.FilingLemmas.{files_of-set_same, files_of-set_more, place-set, place_within, name_read, on_err_from}
use Rattle.depot.proofs.filing.append.Goals as goal

pub index_mut-requires : goal.index_mut-requires
index_mut-requires c = omega (arith, place_within c.args.files.now.items _ _ c.requires, c.args.files.now.ok)

pub returns-in_err-extend_from_slice-clause-refused : goal.returns-in_err-extend_from_slice-clause-refused
returns-in_err-extend_from_slice-clause-refused c =
    let fs = c.args.files.now.items in
    let name = name_at fs c.args.at in
    on_err_from _ (files_of-set_same fs name c.args.at c.index_mut.result.now _ c.requires c.index_mut.ensures.value
    (name_read fs name c.args.at c.index_mut.result.now c.requires c.index_mut.ensures.value) c.in_err-extend_from_slice.ensures.items)

pub returns-in_err-extend_from_slice-clause-place : goal.returns-in_err-extend_from_slice-clause-place
returns-in_err-extend_from_slice-clause-place c =
    let fs = c.args.files.now.items in
    let name = name_at fs c.args.at in
    place-set fs name c.args.at _ c.requires (name_read fs name c.args.at c.index_mut.result.now c.requires c.index_mut.ensures.value)

pub returns-clause-ok : goal.returns-clause-ok
returns-clause-ok c =
    let fs = c.args.files.now.items in
    let name = name_at fs c.args.at in
    files_of-set_more fs name c.args.at c.index_mut.result.now _ c.args.piece.now c.requires c.index_mut.ensures.value
    (name_read fs name c.args.at c.index_mut.result.now c.requires c.index_mut.ensures.value) c.in_ok-extend_from_slice.ensures.items

pub returns-clause-place : goal.returns-clause-place
returns-clause-place c =
    let fs = c.args.files.now.items in
    let name = name_at fs c.args.at in
    place-set fs name c.args.at _ c.requires (name_read fs name c.args.at c.index_mut.result.now c.requires c.index_mut.ensures.value)

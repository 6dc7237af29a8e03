use Rattle.std.proofs.Common.{◌∙◌, refl, arith}
use Rattle.std.proofs.lemmas.Option.{slice_get_read}
use Rattle.field_output.specs.Meeting.{numbers, begins}
use Rattle.field_output.proofs.ChoiceLemmas.{turn_sorted, turn_chain, turn_few, turn_chosen}
use Rattle.field_output.proofs.choice.Choice.turn.Goals as goal

pub fill_merged-requires-clause-carried : goal.fill_merged-requires-clause-carried
fill_merged-requires-clause-carried c =
    let span = c.args.span in
    let first = slice_get_read c.args.self.now.heads.items _ c.args.stripe c.index-head.result.now refl (omega
    (arith, c.requires.stripe, c.requires.ready.heads)) c.index-head.ensures in
    turn_sorted span.size span.first span.count span.positive c.args.shots.now c.requires.legal c.requires.placed c.args.stripe c.args.self.now
    c.requires.ready c.as_slice.result.now c.as_slice-2.result.now c.as_slice.ensures.value c.as_slice-2.ensures.value c.index-head.result.now first

pub fill_merged-requires-clause-chain : goal.fill_merged-requires-clause-chain
fill_merged-requires-clause-chain c =
    let span = c.args.span in
    let first = slice_get_read c.args.self.now.heads.items _ c.args.stripe c.index-head.result.now refl (omega
    (arith, c.requires.stripe, c.requires.ready.heads)) c.index-head.ensures in (
      numbers (begins span.size span.first c.args.stripe) 0 c.args.shots.now,
      turn_chain span.size span.first span.count span.positive
          c.args.shots.now c.requires.legal c.requires.placed c.args.stripe c.args.self.now c.requires.ready c.as_slice.result.now
          c.as_slice-2.result.now c.as_slice.ensures.value c.as_slice-2.ensures.value c.index-head.result.now first,
    )

pub fill_merged-requires-clause-room : goal.fill_merged-requires-clause-room
fill_merged-requires-clause-room c =
    let span = c.args.span in
    let first = slice_get_read c.args.self.now.heads.items _ c.args.stripe c.index-head.result.now refl (omega
    (arith, c.requires.stripe, c.requires.ready.heads)) c.index-head.ensures in
    turn_few span.size span.first span.count span.positive c.args.shots.now c.requires.legal c.requires.placed c.args.stripe c.args.self.now
    c.requires.ready c.as_slice.result.now c.as_slice-2.result.now c.as_slice.ensures.value c.as_slice-2.ensures.value c.index-head.result.now first

pub keep_carried-requires-clause-chosen : goal.keep_carried-requires-clause-chosen
keep_carried-requires-clause-chosen c =
    let span = c.args.span in
    let first = slice_get_read c.args.self.now.heads.items _ c.args.stripe c.index-head.result.now refl (omega
    (arith, c.requires.stripe, c.requires.ready.heads)) c.index-head.ensures in
    c.as_slice-3.ensures.value ∙ turn_chosen span.size span.first span.count span.positive c.args.shots.now c.requires.legal c.requires.placed
    c.args.stripe c.args.self.now c.requires.ready c.as_slice.result.now c.as_slice-2.result.now c.as_slice.ensures.value
    c.as_slice-2.ensures.value c.index-head.result.now first _ c.fill_merged.ensures.merged

pub returns-clause-chosen : goal.returns-clause-chosen
returns-clause-chosen c =
    let span = c.args.span in
    let first = slice_get_read c.args.self.now.heads.items _ c.args.stripe c.index-head.result.now refl (omega
    (arith, c.requires.stripe, c.requires.ready.heads)) c.index-head.ensures in
    turn_chosen span.size span.first span.count span.positive c.args.shots.now c.requires.legal c.requires.placed c.args.stripe c.args.self.now
    c.requires.ready c.as_slice.result.now c.as_slice-2.result.now c.as_slice.ensures.value c.as_slice-2.ensures.value c.index-head.result.now
    first _ c.fill_merged.ensures.merged

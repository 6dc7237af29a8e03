use Rattle.std.proofs.Common.{refl, subst, sym, ap, ◌∙◌, Err}
use Rattle.geo_stream.specs.Refusals.{IsForFault}
use Rattle.oas_reader.specs.Drawn.{IsRefusedBy}
use Rattle.oas_reader.specs.Placed.{KeepsPlaced}
use Rattle.oas_reader.proofs.PlacedLemmas.{both_keep, near_by, refused_first, refused_last, refused_turned}
use Rattle.oas_reader.proofs.placing.placing_of.Goals as goal

pub returns-then-is_first-clause-broken : goal.returns-then-is_first-clause-broken
returns-then-is_first-clause-broken c =
    subst (λ rep. IsForFault (IsRefusedBy (KeepsPlaced c.args.bytes.now c.args.called c.args.turning rep) c.args.at) c.bad_at.result)
    c.repetition_in-repetition.ensures
    (refused_first c.args.bytes.now c.args.called c.args.turning _ c.args.at c.in-Err.undrawn _ c.bad_at.ensures
    (sym c.is_first.ensures ∙ c.if-is_first.true) (λ rule e. c.in-Err.ensures.broken rule (ap Err e)))

pub returns-in-Ok-named_orient-clause-broken : goal.returns-in-Ok-named_orient-clause-broken
returns-in-Ok-named_orient-clause-broken c =
    subst (λ rep. IsForFault (IsRefusedBy (KeepsPlaced c.args.bytes.now c.args.called c.args.turning rep) c.args.at) c.bad_at-in-Ok-named_orient.result)
    c.repetition_in-repetition.ensures
    (refused_last c.args.bytes.now c.args.called c.args.turning _ c.args.at c.in-Err.undrawn _ c.bad_at-in-Ok-named_orient.ensures
    (λ rule e. c.in-Err.ensures.broken rule (ap Err e)) c.in-Ok-named_orient.ensures.kept)

pub returns-in-Err-named_orient-clause-broken : goal.returns-in-Err-named_orient-clause-broken
returns-in-Err-named_orient-clause-broken c =
    subst (λ rep. IsForFault (IsRefusedBy (KeepsPlaced c.args.bytes.now c.args.called c.args.turning rep) c.args.at) c.in-Err-named_orient.bad)
    c.repetition_in-repetition.ensures
    (refused_turned c.args.bytes.now c.args.called c.args.turning _ c.args.at c.in-Err-named_orient.bad
    (near_by _ c.in-Err.undrawn (sym c.is_first.ensures ∙ c.if-is_first.false) (λ rule e. c.in-Err.ensures.broken rule (ap Err e)))
    c.in-Err-named_orient.ensures.broken)

pub returns-in-Err-named_orient-2-clause-broken : goal.returns-in-Err-named_orient-2-clause-broken
returns-in-Err-named_orient-2-clause-broken c =
    subst (λ rep. IsForFault (IsRefusedBy (KeepsPlaced c.args.bytes.now c.args.called c.args.turning rep) c.args.at) c.in-Err-named_orient-2.bad)
    c.repetition_in-repetition.ensures
    (refused_turned c.args.bytes.now c.args.called c.args.turning _ c.args.at c.in-Err-named_orient-2.bad
    ((c.in-Ok.ensures.kept 1).near refl) c.in-Err-named_orient-2.ensures.broken)

pub returns-clause-kept : goal.returns-clause-kept
returns-clause-kept c = λ rule.
    subst (λ rep. KeepsPlaced c.args.bytes.now c.args.called c.args.turning rep rule) c.repetition_in-repetition.ensures
    (both_keep c.args.bytes.now c.args.called c.args.turning _ rule (c.in-Ok.ensures.kept rule) (c.in-Ok-named_orient-2.ensures.kept rule))

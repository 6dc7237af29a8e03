use Rattle.std.proofs.Common.{refl}
use Rattle.oas_record.proofs.Ends.{delta_g_within}
use Rattle.oas_record.proofs.deltas.delta_at.Goals as goal

pub returns-in_ok-delta2-in-TwoDelta-clause-ok : goal.returns-in_ok-delta2-in-TwoDelta-clause-ok
returns-in_ok-delta2-in-TwoDelta-clause-ok c = rw c.in-TwoDelta.is
    ((c.in_ok-delta2-in-TwoDelta.ensures.found c.in_ok-delta2-in-TwoDelta.field-0.0
    c.in_ok-delta2-in-TwoDelta.field-0.1).0 refl)

pub returns-in_ok-delta2-in-TwoDelta-clause-within : goal.returns-in_ok-delta2-in-TwoDelta-clause-within
returns-in_ok-delta2-in-TwoDelta-clause-within c =
    ((c.in_ok-delta2-in-TwoDelta.ensures.found c.in_ok-delta2-in-TwoDelta.field-0.0
    c.in_ok-delta2-in-TwoDelta.field-0.1).0 refl).1.within

pub returns-in_ok-delta3-in-ThreeDelta-clause-ok : goal.returns-in_ok-delta3-in-ThreeDelta-clause-ok
returns-in_ok-delta3-in-ThreeDelta-clause-ok c = rw c.in-ThreeDelta.is
    ((c.in_ok-delta3-in-ThreeDelta.ensures.found c.in_ok-delta3-in-ThreeDelta.field-0.0
    c.in_ok-delta3-in-ThreeDelta.field-0.1).0 refl)

pub returns-in_ok-delta3-in-ThreeDelta-clause-within : goal.returns-in_ok-delta3-in-ThreeDelta-clause-within
returns-in_ok-delta3-in-ThreeDelta-clause-within c =
    ((c.in_ok-delta3-in-ThreeDelta.ensures.found c.in_ok-delta3-in-ThreeDelta.field-0.0
    c.in_ok-delta3-in-ThreeDelta.field-0.1).0 refl).1.within

pub returns-in_ok-delta_g-in-GDelta-clause-ok : goal.returns-in_ok-delta_g-in-GDelta-clause-ok
returns-in_ok-delta_g-in-GDelta-clause-ok c = rw c.in-GDelta.is
    ((c.in_ok-delta_g-in-GDelta.ensures.found c.in_ok-delta_g-in-GDelta.field-0.0
    c.in_ok-delta_g-in-GDelta.field-0.1).0 refl)

pub returns-in_ok-delta_g-in-GDelta-clause-within : goal.returns-in_ok-delta_g-in-GDelta-clause-within
returns-in_ok-delta_g-in-GDelta-clause-within c =
    delta_g_within c.args.bytes.now c.args.at c.in_ok-delta_g-in-GDelta.field-0.0 c.in_ok-delta_g-in-GDelta.field-0.1
    ((c.in_ok-delta_g-in-GDelta.ensures.found c.in_ok-delta_g-in-GDelta.field-0.0
    c.in_ok-delta_g-in-GDelta.field-0.1).0 refl)

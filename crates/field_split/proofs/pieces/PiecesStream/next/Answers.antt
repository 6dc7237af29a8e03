use Rattle.std.proofs.Common.{List, [], ◌++◌, All, refl, ap, sym, subst, ◌∙◌}
use Rattle.std.proofs.lemmas.List.Elements.{All-head, All-tail}
use Rattle.half_grid.specs.Trapezoids.{Trapezoid}
use Rattle.field_split.specs.Cutting.{pieces_of}
use Rattle.field_split.specs.Looks.{IsFieldShot}
use Rattle.field_split.specs.Pieces.{HasFewPieces, pieces_in_hand}
use Rattle.field_split.specs.StreamLaws.{hand_length}
use Rattle.field_split.proofs.FewLemmas.{turned, ended, room}
use Rattle.field_split.proofs.pieces.PiecesStream.next.Goals as goal

pub returns-in-Some-clause-first : goal.returns-in-Some-clause-first
returns-in-Some-clause-first g c = λ items before.
    let stripe = c.loop-piece.self.stripe in
    let p = c.loop-piece.invariant.same items before in
    let rest = pieces_of stripe.size stripe.number p.shots in (
      pieces_in_hand stripe.size c.next.new.self ++ rest,
      p.is ∙ ap (λ (xs : List Trapezoid). xs ++ rest) c.in-Some.ensures,
      record { shots = p.shots; given = p.given; within = p.within; few = p.few; is = refl },
    )

pub next-requires-in-loop-piece : goal.next-requires-in-loop-piece
next-requires-in-loop-piece g c = let p = c.loop-piece.invariant.same c.requires.0 c.requires.1 in (p.shots, p.given)

pub of-self-requires : goal.of-self-requires
of-self-requires g c =
    let p = c.loop-piece.invariant.same c.requires.0 c.requires.1 in
    let first = c.in-Some-next.ensures.first p.shots p.given in
    (All-head IsFieldShot c.in-Some-next.shot first.0 (subst (All IsFieldShot) first.1 p.within)).reach

pub loop-piece-preserved : goal.loop-piece-preserved
loop-piece-preserved g c =
    let stripe = c.loop-piece.self.stripe in
    let few = hand_length stripe.size c.of-self.result in
    record {
      same = λ items before.
          let p = c.loop-piece.invariant.same items before in
          let first = c.in-Some-next.ensures.first p.shots p.given in
          record {
            shots = first.0;
            given = first.2;
            within = All-tail IsFieldShot c.in-Some-next.shot first.0 (subst (All IsFieldShot) first.1 p.within);
            few = All-tail (HasFewPieces stripe.size stripe.number) c.in-Some-next.shot first.0
                (subst (All (HasFewPieces stripe.size stripe.number)) first.1 p.few);
            is = p.is ∙ turned stripe.size stripe.number c.loop-piece.self.in_hand c.of-self.result p.shots first.0
                c.in-Some-next.shot c.in_default.ensures.0 first.1 c.of-self.ensures;
          };
      size = room _ _ _ _ _ few c.in-Some-next.ensures.size c.loop-piece.invariant.size;
    }

pub returns-in-None-clause-first : goal.returns-in-None-clause-first
returns-in-None-clause-first g c = λ items before.
    let stripe = c.loop-piece.self.stripe in
    let p = c.loop-piece.invariant.same items before in
    let last = c.in-None.ensures.first p.shots p.given in (
      p.is ∙ ended stripe.size stripe.number c.loop-piece.self.in_hand p.shots c.in_default.ensures.0 last.0,
      record {
        shots = [];
        given = last.1;
        within = subst (All IsFieldShot) last.0 p.within;
        few = subst (All (HasFewPieces stripe.size stripe.number)) last.0 p.few;
        is = sym (ended stripe.size stripe.number c.next.new.self [] c.in_default.ensures.1 refl);
      },
    )

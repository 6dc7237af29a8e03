use Rattle.std.proofs.Common.{List, [], ◌++◌, All, flat_map, length, refl, ap, sym, subst, ◌∙◌, arith, append-nil}
use Rattle.std.proofs.lemmas.List.Elements.{All-head, All-tail}
use Rattle.half_grid.specs.Edges.{EdgeParts}
use Rattle.square_size.specs.Edges.{edges_of_grown}
use Rattle.square_size.specs.Laws.Growing.{four_at_most}
use Rattle.square_size.specs.Rings.{HasRingWithinReach}
use Rattle.square_size.proofs.Taking.{turned, ended}
use Rattle.square_size.proofs.growing.GrownStream.next.Goals as goal

pub returns-in-Some-clause-first : goal.returns-in-Some-clause-first
returns-in-Some-clause-first g c = λ items before.
    let p = c.loop-edge.invariant.same items before in
    let rest = flat_map (edges_of_grown c.loop-edge.self.by.dx c.loop-edge.self.by.dy) p.traps in (
      c.take_first.new.self ++ rest,
      p.is ∙ ap (λ (es : List EdgeParts). es ++ rest) c.in-Some.ensures.first,
      record {
        traps = p.traps;
        given = p.given;
        sizing = p.sizing;
        within = p.within;
        few = omega
            (arith, ap length c.in-Some.ensures.first, p.few);
        is = refl;
      },
    )

pub next-requires : goal.next-requires
next-requires g c = let p = c.loop-edge.invariant.same c.requires.0 c.requires.1 in (p.traps, p.given)

pub fill-requires-clause-sizing : goal.fill-requires-clause-sizing
fill-requires-clause-sizing g c = (c.loop-edge.invariant.same c.requires.0 c.requires.1).sizing

pub fill-requires-clause-reach : goal.fill-requires-clause-reach
fill-requires-clause-reach g c =
    let by = c.loop-edge.self.by in
    let p = c.loop-edge.invariant.same c.requires.0 c.requires.1 in
    let first = c.in-Some-next.ensures.first p.traps p.given in
    All-head (HasRingWithinReach by.dx by.dy) c.in-Some-next.trap first.0 (subst (All (HasRingWithinReach by.dx by.dy)) first.1 p.within)

pub loop-edge-preserved : goal.loop-edge-preserved
loop-edge-preserved g c =
    let by = c.loop-edge.self.by in
    let few = four_at_most by.dx by.dy c.in-Some-next.trap in
    let length_is = ap length c.fill.ensures in
    record {
      same = λ items before.
          let p = c.loop-edge.invariant.same items before in
          let first = c.in-Some-next.ensures.first p.traps p.given in
          record {
            traps = first.0;
            given = first.2;
            sizing = p.sizing;
            within = All-tail (HasRingWithinReach by.dx by.dy) c.in-Some-next.trap first.0 (subst (All (HasRingWithinReach by.dx by.dy)) first.1 p.within);
            few = omega (arith, few, length_is);
            is = p.is ∙ turned by.dx by.dy c.loop-edge.self.in_hand c.fill.new.self p.traps first.0
                c.in-Some-next.trap c.in_default.ensures.none first.1 c.fill.ensures;
          };
      size = omega (arith, c.loop-edge.invariant.size, c.in-Some-next.ensures.size, few, length_is);
    }

pub returns-in-None-clause-first : goal.returns-in-None-clause-first
returns-in-None-clause-first g c = λ items before.
    let by = c.loop-edge.self.by in
    let p = c.loop-edge.invariant.same items before in
    let last = c.in-None.ensures.first p.traps p.given in
    let empty = sym c.in_default.ensures.first ∙ c.in_default.ensures.none in (
      p.is ∙ ended by.dx by.dy c.loop-edge.self.in_hand p.traps c.in_default.ensures.none last.0,
      record {
        traps = [];
        given = last.1;
        sizing = p.sizing;
        within = subst
            (All (HasRingWithinReach by.dx by.dy)) last.0 p.within;
        few = omega (arith, ap length empty);
        is = sym
            (append-nil c.take_first.new.self ∙ empty);
      },
    )

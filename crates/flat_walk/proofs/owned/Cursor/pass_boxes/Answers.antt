use Rattle.std.proofs.Common.{◌≡◌, ◌∙◌, ◌-◌, ◌+◌, ◌≤◌, ap, sym, subst, refl, arith, drop}
use Rattle.flat_walk.specs.EntryLists.{entries_in}
use Rattle.flat_walk.specs.Blocks.{boxes_in}
use Rattle.flat_walk.specs.Kept.{all_lists, AreSingle}
use Rattle.flat_walk.specs.Hands.{shapes_left}
use Rattle.flat_walk.proofs.RestLemmas.{skip_same}
use Rattle.flat_walk.proofs.BlockLemmas.{ArePassed, boxes_passed, drop_on}
use Rattle.flat_walk.proofs.EntryLemmas.{lists_dropped, single_dropped}
use Rattle.flat_walk.proofs.owned.Cursor.pass_boxes.Goals as goal

pub returns-then-next-self-clause-skips : goal.returns-then-next-self-clause-skips
returns-then-next-self-clause-skips c = λ pair. skip_same c.args.window _ _ refl

pub returns-then-next-self-2-clause-skips : goal.returns-then-next-self-2-clause-skips
returns-then-next-self-2-clause-skips c = λ pair. skip_same c.args.window _ _ refl

-- how many entries are passed by
passed_few : (c : goal.After-self-3-1) → c.next_in-next.result - c.args.self.now.number ≤ c.args.self.now.single - c.args.self.now.number
passed_few c = omega (arith, c.if-next-self-2.false)

passed : (c : goal.After-self-3-1) → ArePassed c.args.window c.args.self.now.orient c.args.self.now.at
    (shapes_left c.args.self.now) (drop c.next_in-next.result c.args.self.now.shapes.now) (all_lists (entries_in c.args.self.now.lists))
    (all_lists (entries_in c.after-self.result))
    (drop c.next_in-next.result (boxes_in c.args.self.now.boxes)) c.args.self.now.place
passed c =
    let s = c.args.self.now in
    let n = c.next_in-next in
    let count = n.result - s.number in
    let is : n.result ≡ s.number + count = omega (arith, n.ensures.later) in
    let some : 1 ≤ count = omega (arith, n.ensures.later, c.if-next-self.false) in
    boxes_passed c.args.window s.orient s.at s.number n.result count (shapes_left s) (drop n.result s.shapes.now) (all_lists (entries_in s.lists))
    (all_lists (entries_in c.after-self.result)) (boxes_in s.boxes) s.place c.requires.boxed is some
    (n.ensures.inside (omega (arith, some))) n.ensures.none (sym (drop_on s.number count n.result s.shapes.now is))
    (ap all_lists c.after-self.ensures ∙ lists_dropped count (s.single - s.number) (entries_in s.lists) (passed_few c) c.requires.single)

pub returns-clause-cursor : goal.returns-clause-cursor
returns-clause-cursor c =
    let s = c.args.self.now in
    let n = c.next_in-next.result in
    let count = n - s.number in
    let left : (s.single - s.number) - count ≡ s.single - n = omega (arith, c.next_in-next.ensures.later) in
    record {
      orient = c.requires.orient;
      near = c.requires.near;
      grid = c.requires.grid;
      single = subst (λ k. AreSingle k (entries_in c.after-self.result)) left
          (subst (AreSingle ((s.single - s.number) - count)) (sym c.after-self.ensures)
          (single_dropped count (s.single - s.number) (entries_in s.lists) (passed_few c) c.requires.single));
      boxed = (passed c).boxed;
    }

pub returns-clause-skips : goal.returns-clause-skips
returns-clause-skips c = (passed c).skips

pub returns-clause-steps : goal.returns-clause-steps
returns-clause-steps c = (passed c).steps

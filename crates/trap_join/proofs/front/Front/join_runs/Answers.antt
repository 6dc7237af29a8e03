use Rattle.std.proofs.Common.{◌≡◌, true, ap, sym, ◌∙◌, append-nil, w64, FitsSigned}
use Rattle.std.proofs.lemmas.Int.{to_z-of_z}
use Rattle.trap_join.specs.Fronts.{all_go_on}
use Rattle.trap_join.proofs.Merging.{all_fresh, all_waiting}
use Rattle.trap_join.proofs.front.Front.join_runs.Goals as goal

all_go : (c : goal.Then-all_go_on) → all_go_on c.args.self.now.growing.items c.args.runs.now ≡ true
all_go c = ap (λ f. all_go_on f c.args.runs.now) (sym c.as_slice.ensures.value) ∙ sym c.all_go_on.ensures.value ∙ c.if-all_go_on.true

pub returns-then-all_go_on-clause-growing : goal.returns-then-all_go_on-clause-growing
returns-then-all_go_on-clause-growing c = sym (all_fresh c.args.y c.args.self.now.growing.items c.args.runs.now c.requires.front c.requires.runs (all_go c))

pub returns-then-all_go_on-clause-waiting : goal.returns-then-all_go_on-clause-waiting
returns-then-all_go_on-clause-waiting c = rw
    (all_waiting c.args.y c.args.self.now.growing.items c.args.runs.now c.requires.front c.requires.runs (all_go c))
    (sym (append-nil _))

pub merge-requires-clause-shots : goal.merge-requires-clause-shots
merge-requires-clause-shots c =
    let y : FitsSigned w64 c.args.y = c.ranges.y in
    simp (to_z-of_z, c.as_slice-2.ensures.value) c.requires.shots

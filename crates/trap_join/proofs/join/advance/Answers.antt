use Rattle.std.proofs.Common.{◌≡◌, length, [], refl, ap, ◌∙◌, arith, w64, FitsSigned, rules}
use Rattle.std.proofs.lemmas.Int.{to_z-of_z}
use Rattle.std.proofs.lemmas.Bool.Decides.{nat_tests}
use Rattle.trap_join.proofs.Advances.{shots_at, stands_at, slab_joined, slab_left, end_joined, end_left, stays_joined, stays_less, some_growing}
use Rattle.trap_join.proofs.Growth.{run_sides}
use Rattle.trap_join.proofs.join.advance.Goals as goal

pub end_growing-requires : goal.end_growing-requires
end_growing-requires g c =
    let fits : FitsSigned w64 c.args.front.now.top = search rules in
    let some : c.args.front.now.growing.items ≡ [] → ⊥ = λ e. (let n = ap length e in grind (arith, nat_tests, n)) in
    shots_at _ _ _ _ c.requires.so_far.0 c.args.front.now.waiting.items _ c.requires.so_far.1 _ (to_z-of_z w64 c.args.front.now.top fits ∙ c.requires.top some)

pub returns-in_default-clause-joined : goal.returns-in_default-clause-joined
returns-in_default-clause-joined g c = λ given so_far.
    let fits : FitsSigned w64 c.args.front.now.top = search rules in
    let some : c.args.front.now.growing.items ≡ [] → ⊥ = λ e. (let n = ap length e in grind (arith, nat_tests, n)) in
    let top_is = to_z-of_z w64 c.args.front.now.top fits ∙ c.requires.top some in
    stays_joined _ c.args.scan.now.edges c.next.new.self.edges c.args.scan.now.window c.next.new.self.window _ _ _
    c.in_default.ensures.edges c.in_default.ensures.window
    (end_joined _ _ _ _ given c.args.front.now.waiting.items c.args.front.now.growing.items so_far
    c.in_default.ensures.none _ c.next.new.self.y c.end_growing.new.self.waiting.items
    c.end_growing.new.self.growing.items top_is c.in_default.ensures.end c.in_ok-end_growing.ensures.waiting
    c.in_ok-end_growing.ensures.growing)

pub returns-in_default-clause-fewer : goal.returns-in_default-clause-fewer
returns-in_default-clause-fewer g c = λ _.
    let some : c.args.front.now.growing.items ≡ [] → ⊥ = λ e. (let n = ap length e in grind (arith, nat_tests, n)) in
    stays_less c.args.scan.now.window c.next.new.self.window _ _ _ _ _ _ c.in_default.ensures.window
    (end_left c.args.scan.now.window.y1 c.args.scan.now.y _ c.next.new.self.y c.args.front.now.waiting.items
    c.end_growing.new.self.waiting.items c.args.front.now.growing.items c.end_growing.new.self.growing.items
    c.in_default.ensures.end
    (some_growing _ some) c.in_ok-end_growing.ensures.waiting c.in_ok-end_growing.ensures.growing)

pub join_runs-requires-clause-shots : goal.join_runs-requires-clause-shots
join_runs-requires-clause-shots g c =
    let fits : FitsSigned w64 c.in-Some.slab.y0 = search rules in
    shots_at _ _ _ _ c.requires.so_far.0 c.args.front.now.waiting.items _ c.requires.so_far.1 _ (to_z-of_z w64 c.in-Some.slab.y0 fits ∙ c.in-Some.ensures.from)

pub join_runs-requires-clause-front : goal.join_runs-requires-clause-front
join_runs-requires-clause-front g c =
    let fits : FitsSigned w64 c.in-Some.slab.y0 = search rules in
    stands_at _ _ _ _ c.requires.so_far.0 c.args.front.now.waiting.items _ c.requires.so_far.1 _ (to_z-of_z w64 c.in-Some.slab.y0 fits ∙ c.in-Some.ensures.from)

pub join_runs-requires-clause-sides : goal.join_runs-requires-clause-sides
join_runs-requires-clause-sides g c =
    let fits : FitsSigned w64 c.in-Some.slab.y0 = search rules in
    simp (to_z-of_z, c.runs.ensures) (run_sides c.in-Some.slab.y0 c.in-Some.slab.y1 c.next.new.self.runs c.in-Some.ensures.runs.shots)

pub returns-clause-joined : goal.returns-clause-joined
returns-clause-joined g c = λ given so_far.
    let fits : FitsSigned w64 c.in-Some.slab.y0 = search rules in
    let low_is = to_z-of_z w64 c.in-Some.slab.y0 fits ∙ c.in-Some.ensures.from in
    stays_joined _ c.args.scan.now.edges c.next.new.self.edges c.args.scan.now.window c.next.new.self.window _ _ _
    c.in-Some.ensures.edges c.in-Some.ensures.window
    (slab_joined _ _ _ _ given c.args.front.now.waiting.items c.args.front.now.growing.items so_far c.in-Some.slab.y0
    c.in-Some.slab.y1 c.in-Some.ensures.from c.in-Some.ensures.slab c.next.new.self.runs c.in-Some.ensures.runs
    _ c.next.new.self.y c.join_runs.new.self.waiting.items c.join_runs.new.self.growing.items low_is
    c.in-Some.ensures.to (rw c.runs.ensures at c.in_ok-join_runs.ensures.waiting)
    (rw c.runs.ensures at c.in_ok-join_runs.ensures.growing))

pub returns-clause-fewer : goal.returns-clause-fewer
returns-clause-fewer g c = λ _.
    stays_less c.args.scan.now.window c.next.new.self.window _ _ _ _ _ _ c.in-Some.ensures.window
    (slab_left _ c.args.scan.now.edges c.args.scan.now.window c.args.scan.now.y c.requires.so_far.0
    c.args.front.now.waiting.items c.args.front.now.growing.items c.requires.so_far.1 c.in-Some.slab.y0
    c.in-Some.slab.y1 c.in-Some.ensures.from c.in-Some.ensures.slab c.next.new.self.runs
    _ c.next.new.self.y c.join_runs.new.self.waiting.items c.join_runs.new.self.growing.items c.in-Some.ensures.to
    (rw c.runs.ensures at c.in_ok-join_runs.ensures.count) (rw c.runs.ensures at c.in_ok-join_runs.ensures.waiting)
    (rw c.runs.ensures at c.in_ok-join_runs.ensures.growing))

pub returns-in_default-clause-never_more : goal.returns-in_default-clause-never_more
returns-in_default-clause-never_more g c = let fewer = returns-in_default-clause-fewer g c refl in omega (arith, fewer)

pub returns-clause-never_more : goal.returns-clause-never_more
returns-clause-never_more g c = let fewer = returns-clause-fewer g c refl in omega (arith, fewer)

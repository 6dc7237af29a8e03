use Rattle.std.proofs.Common.{◌<◌, ◌≤◌, [], ◌∷◌, ◌++◌, Some, None, OnOk, length, map, drop, refl, sym, ap, subst, ◌∙◌, arith}
use Rattle.cell_tree.specs.Cells.{targets_at}
use Rattle.cell_tree.specs.Searches.{IsSearch, IsStop, IsOnPath}
use Rattle.cell_tree.specs.declared.orders.Mark.TheVariants.{New, Open, Done}
use Rattle.cell_tree.proofs.ResultLemmas.{on_ok2, on_ok4, by_empty}
use Rattle.cell_tree.proofs.SearchLemmas.{stop_within, leaves, leaves_smaller, enters_smaller, go_none, go_done, go_new}
use Rattle.cell_tree.proofs.SearchLemmas.{go_open, go_old_cycle, go_new_cycle, same_search, same_work, shown}
use Rattle.cell_tree.proofs.SearchLemmas.{shown_inside, shown_within, mark_is}
use Rattle.cell_tree.proofs.orders.Search.go_on.Goals as goal

pub targets-targets-requires : goal.targets-targets-requires
targets-targets-requires c = stop_within c.args.linked.now.cells c.args.top _ _ _ _ c.args.stop c.requires.top c.requires.search

pub leave-requires : goal.leave-requires
leave-requires c = let inside =
    stop_within c.args.linked.now.cells c.args.top _ _ _ _ c.args.stop c.requires.top c.requires.search in let same =
    c.requires.search.sized in omega arith

pub returns-then-targets-next-clause-search : goal.returns-then-targets-next-clause-search
returns-then-targets-next-clause-search c =
    let cells = c.args.linked.now.cells in let old = c.args.self.now in
    let all : length (targets_at cells c.args.stop.cell) ≤ c.args.stop.next = subst
    (λ l. length l ≤ c.args.stop.next) c.targets-targets.ensures.value c.if-targets-next.true in
    let s = leaves cells c.args.top old.marks.items old.path.items old.order.items old.cycle.items c.args.stop c.requires.search
    (stop_within cells c.args.top _ _ _ _ c.args.stop c.requires.top c.requires.search) all in
    on_ok4 c.leave.result c.leave.ensures.marks c.leave.ensures.path c.leave.ensures.order c.leave.ensures.cycle
    (λ m p o y. same_search cells c.args.top _ _ _ _ _ _ _ _ m p o y s)

pub returns-then-targets-next-clause-smaller : goal.returns-then-targets-next-clause-smaller
returns-then-targets-next-clause-smaller c =
    on_ok2 c.leave.result c.leave.ensures.marks c.leave.ensures.path
    (λ m p. same_work c.args.linked.now.cells _ _ _ _ _ m p
    (leaves_smaller c.args.linked.now.cells c.args.self.now.marks.items c.args.self.now.path.items c.args.stop))

pub returns-in_default-clause-search : goal.returns-in_default-clause-search
returns-in_default-clause-search c =
    let cells = c.args.linked.now.cells in let old = c.args.self.now in let stop = c.args.stop in
    let inside = shown_inside cells stop.cell stop.next c.targets-targets.result.now c.targets-targets.ensures.value c.if-targets-next.false in
    let none = shown cells stop.cell stop.next c.targets-targets.result.now None c.targets-targets.ensures.value c.in_default.is in
    same_search cells c.args.top _ _ _ _ _ _ _ _ refl c.in_ok-push.ensures.items refl refl
    (go_none cells c.args.top old.marks.items old.path.items old.order.items old.cycle.items stop c.requires.search inside none)

pub index-requires : goal.index-requires
index-requires c =
    let within = shown_within c.args.linked.now.cells c.args.stop.cell c.args.stop.next c.targets-targets.result.now
    c.in-Some.target c.targets-targets.ensures.value c.if-targets-next.false c.in-Some.is in
    let same = c.requires.search.sized in omega arith

pub open-requires : goal.open-requires
open-requires c =
    let within = shown_within c.args.linked.now.cells c.args.stop.cell c.args.stop.next c.targets-targets.result.now
    c.in-Some.target c.targets-targets.ensures.value c.if-targets-next.false c.in-Some.is in
    let same = c.requires.search.sized in omega arith

pub note_cycle-requires : goal.note_cycle-requires
note_cycle-requires c =
    let cells = c.args.linked.now.cells in let old = c.args.self.now in let stop = c.args.stop in let target = c.in-Some.target in
    let inside = shown_inside cells stop.cell stop.next c.targets-targets.result.now c.targets-targets.ensures.value c.if-targets-next.false in
    let is = shown cells stop.cell stop.next c.targets-targets.result.now (Some target) c.targets-targets.ensures.value c.in-Some.is in
    let within = shown_within cells stop.cell stop.next c.targets-targets.result.now target
    c.targets-targets.ensures.value c.if-targets-next.false c.in-Some.is in
    let same = c.requires.search.sized in
    let marked : target < length old.marks.items = omega arith in
    subst (λ p. IsOnPath p target) (sym c.in_ok-push.ensures.items)
    (go_open cells c.args.top old.marks.items old.path.items old.order.items old.cycle.items stop c.requires.search inside target is
    (mark_is old.marks.items target c.index.result.now Open marked c.index.ensures c.in-Open.is))

pub returns-in-New-clause-search : goal.returns-in-New-clause-search
returns-in-New-clause-search c =
    let cells = c.args.linked.now.cells in let old = c.args.self.now in let stop = c.args.stop in let target = c.in-Some.target in
    let inside = shown_inside cells stop.cell stop.next c.targets-targets.result.now c.targets-targets.ensures.value c.if-targets-next.false in
    let is = shown cells stop.cell stop.next c.targets-targets.result.now (Some target) c.targets-targets.ensures.value c.in-Some.is in
    let within = shown_within cells stop.cell stop.next c.targets-targets.result.now target
    c.targets-targets.ensures.value c.if-targets-next.false c.in-Some.is in
    let same = c.requires.search.sized in
    let marked : target < length old.marks.items = omega arith in
    let s = go_new cells c.args.top old.marks.items old.path.items old.order.items old.cycle.items stop c.requires.search inside target is within
    (mark_is old.marks.items target c.index.result.now New marked c.index.ensures c.in-New.is) in
    on_ok4 c.open.result c.open.ensures.marks c.open.ensures.path c.open.ensures.order c.open.ensures.cycle
    (λ m p o y. same_search cells c.args.top _ _ _ _ _ _ _ _ m (p ∙ ap (λ l. l ++ record { cell = target; next = 0 } ∷ []) c.in_ok-push.ensures.items) o y s)

pub returns-in-New-clause-smaller : goal.returns-in-New-clause-smaller
returns-in-New-clause-smaller c =
    let cells = c.args.linked.now.cells in let old = c.args.self.now in let stop = c.args.stop in let target = c.in-Some.target in
    let inside = shown_inside cells stop.cell stop.next c.targets-targets.result.now c.targets-targets.ensures.value c.if-targets-next.false in
    let within = shown_within cells stop.cell stop.next c.targets-targets.result.now target
    c.targets-targets.ensures.value c.if-targets-next.false c.in-Some.is in
    let same = c.requires.search.sized in
    let marked : target < length old.marks.items = omega arith in
    let less = enters_smaller cells old.marks.items old.path.items stop target inside within
    (mark_is old.marks.items target c.index.result.now New marked c.index.ensures c.in-New.is) in
    on_ok2 c.open.result c.open.ensures.marks c.open.ensures.path
    (λ m p. same_work cells _ _ _ _ _ m (p ∙ ap (λ l. l ++ record { cell = target; next = 0 } ∷ []) c.in_ok-push.ensures.items) less)

pub returns-in-Open-clause-search : goal.returns-in-Open-clause-search
returns-in-Open-clause-search c =
    let cells = c.args.linked.now.cells in let old = c.args.self.now in let stop = c.args.stop in let target = c.in-Some.target in
    let inside = shown_inside cells stop.cell stop.next c.targets-targets.result.now c.targets-targets.ensures.value c.if-targets-next.false in
    let is = shown cells stop.cell stop.next c.targets-targets.result.now (Some target) c.targets-targets.ensures.value c.in-Some.is in
    let within = shown_within cells stop.cell stop.next c.targets-targets.result.now target
    c.targets-targets.ensures.value c.if-targets-next.false c.in-Some.is in
    let same = c.requires.search.sized in
    let marked : target < length old.marks.items = omega arith in
    let opened = mark_is old.marks.items target c.index.result.now Open marked c.index.ensures c.in-Open.is in
    let pushed = c.in_ok-push.ensures.items in
    let note = c.note_cycle.ensures in
    by_empty old.cycle.items
    (OnOk c.note_cycle.result
    (IsSearch cells c.args.top c.note_cycle.new.self.marks.items c.note_cycle.new.self.path.items
    c.note_cycle.new.self.order.items c.note_cycle.new.self.cycle.items))
    (λ none. on_ok4 c.note_cycle.result note.marks note.path note.order (note.cycle none)
    (λ m p o y. same_search cells c.args.top _ _ _ _ _ _ _ _ m (p ∙ pushed) o refl
    (go_new_cycle cells c.args.top old.marks.items old.path.items old.order.items old.cycle.items stop c.requires.search inside target is y.0 _ opened none
    (subst (λ l. IsStop l y.0 target) pushed y.1) (y.2 ∙ ap (λ l. map (λ s. s.cell) (drop y.0 l)) pushed))))
    (λ some. on_ok4 c.note_cycle.result note.marks note.path note.order (note.first some)
    (λ m p o y. same_search cells c.args.top _ _ _ _ _ _ _ _ m (p ∙ pushed) o y
    (go_old_cycle cells c.args.top old.marks.items old.path.items old.order.items old.cycle.items stop c.requires.search inside target is opened some)))

pub returns-in-Done-clause-search : goal.returns-in-Done-clause-search
returns-in-Done-clause-search c =
    let cells = c.args.linked.now.cells in let old = c.args.self.now in let stop = c.args.stop in let target = c.in-Some.target in
    let inside = shown_inside cells stop.cell stop.next c.targets-targets.result.now c.targets-targets.ensures.value c.if-targets-next.false in
    let is = shown cells stop.cell stop.next c.targets-targets.result.now (Some target) c.targets-targets.ensures.value c.in-Some.is in
    let within = shown_within cells stop.cell stop.next c.targets-targets.result.now target
    c.targets-targets.ensures.value c.if-targets-next.false c.in-Some.is in
    let same = c.requires.search.sized in
    let marked : target < length old.marks.items = omega arith in
    same_search cells c.args.top _ _ _ _ _ _ _ _ refl c.in_ok-push.ensures.items refl refl
    (go_done cells c.args.top old.marks.items old.path.items old.order.items old.cycle.items stop c.requires.search inside target is
    (mark_is old.marks.items target c.index.result.now Done marked c.index.ensures c.in-Done.is))

use Rattle.std.proofs.Common.{ℕ, ℤ, List, ◌+◌, ◌^◌, ◌<◌, ◌≤◌, vec_len, vec_capacity, pos, neg_ℤ, ◌+ℤ◌, ◌-ℤ◌, ◌*ℤ◌, ◌≤ℤ◌}
use Rattle.std.proofs.Common.{FitsSigned, w64, refl, ap, subst, sym, ◌∙◌, arith, rules}
use Rattle.std.proofs.lemmas.Int.{ints, to_z-of_z}
use Rattle.std.specs.Int.{int_gap}
use Rattle.density_map.specs.declared.counts.Counted.{Counted}
use Rattle.density_map.specs.Frames.{count_in_frame}
use Rattle.density_map.specs.Windows.{window}
use Rattle.density_map.specs.Counts.{AreCounts, count_at}
use Rattle.density_map.specs.Rows.{AreColumnsOf}
use Rattle.density_map.proofs.FloorLemmas.{next_side, gap_step}
use Rattle.density_map.proofs.AddLemmas.{none_added, one_added, all_added, side_near, next_near}
use Rattle.density_map.proofs.rows.add_windows.Goals as goal

pub loop-columns-init : goal.loop-columns-init
loop-columns-init c =
    let columns = c.columns_of-columns in
    let ok : vec_len c.reserve.new.self + c.number_of.result ≤ vec_capacity c.reserve.new.self = search rules in
    record {
      counts = subst AreCounts (sym c.reserve.ensures.items) c.requires.counts;
      added = none_added c.args.strip.now.size c.args.strip.now.row columns.result.first columns.result.end
          c.args.trap.now c.reserve.new.self.items c.reserve.new.self.items c.requires.size columns.ensures.columns
          refl;
      columns = columns.ensures.columns;
      first = columns.ensures.first.low;
      end = columns.ensures.end;
      low = columns.ensures.low;
      high = columns.ensures.high;
      room = subst (λ (n : ℕ). vec_len c.reserve.new.self + n ≤ vec_capacity c.reserve.new.self) c.number_of.ensures ok;
    }

pub add_window-first-requires-clause-left : goal.add_window-first-requires-clause-left
add_window-first-requires-clause-left c =
    let l = c.loop-columns in
    let ff : FitsSigned w64 c.loop-columns.columns.first = search rules in
    let fe : FitsSigned w64 c.loop-columns.columns.end = search rules in
    let test = simp to_z-of_z at c.loop-columns-test.true in
    side_near c.args.strip.now.size l.columns.first l.columns.end c.requires.size l.invariant.low l.invariant.high (omega (arith, ints, test))

pub add_window-first-requires-clause-right : goal.add_window-first-requires-clause-right
add_window-first-requires-clause-right c =
    let l = c.loop-columns in
    let ff : FitsSigned w64 c.loop-columns.columns.first = search rules in
    let fe : FitsSigned w64 c.loop-columns.columns.end = search rules in
    let test = simp to_z-of_z at c.loop-columns-test.true in
    next_near c.args.strip.now.size l.columns.first l.columns.end c.requires.size l.invariant.low l.invariant.high (omega (arith, ints, test))

pub add_window-first-requires-clause-room : goal.add_window-first-requires-clause-room
add_window-first-requires-clause-room c =
    let l = c.loop-columns in
    let was = l.invariant.added.rest l.columns.first (omega (arith, ints)) in
    let same = ap (λ (xs : List Counted). count_at l.columns.first xs) c.reserve.ensures.items in
    subst (λ (n : ℕ). n + count_in_frame
    (window c.args.strip.now.size c.loop-columns.columns.first c.args.strip.now.row) c.args.trap.now < 2 ^ 128)
    (sym (was ∙ same)) (c.requires.room l.columns.first)

pub next_of-columns-requires-clause-high : goal.next_of-columns-requires-clause-high
next_of-columns-requires-clause-high c =
    let ff : FitsSigned w64 c.loop-columns.columns.first = search rules in
    let fe : FitsSigned w64 c.loop-columns.columns.end = search rules in
    let test = simp to_z-of_z at c.loop-columns-test.true in
    omega (arith, ints, test, c.loop-columns.invariant.end)

pub loop-columns-smaller : goal.loop-columns-smaller
loop-columns-smaller c =
    let l = c.loop-columns in
    let next = c.next_of-columns in
    let ff : FitsSigned w64 c.loop-columns.columns.first = search rules in
    let fe : FitsSigned w64 c.loop-columns.columns.end = search rules in
    let test = simp to_z-of_z at c.loop-columns-test.true in
    let gap = gap_step l.columns.first l.columns.end next.result.first (omega (arith, ints, test)) next.ensures.first in
    let end = ap (λ (e : ℤ). int_gap next.result.first e) next.ensures.end in
    let smaller : int_gap next.result.first next.result.end < int_gap l.columns.first l.columns.end = omega (arith, gap, end) in
    smaller

pub loop-columns-preserved : goal.loop-columns-preserved
loop-columns-preserved c =
    let l = c.loop-columns in
    let next = c.next_of-columns in
    let ff : FitsSigned w64 c.loop-columns.columns.first = search rules in
    let fe : FitsSigned w64 c.loop-columns.columns.end = search rules in
    let test = simp to_z-of_z at c.loop-columns-test.true in
    let gap = gap_step l.columns.first l.columns.end next.result.first (omega (arith, ints, test)) next.ensures.first in
    let end = ap (λ (e : ℤ). int_gap next.result.first e) next.ensures.end in
    let side = next_side l.columns.first c.args.strip.now.size in
    let low : neg_ℤ (pos (2 ^ 45)) ≤ℤ ((l.columns.first +ℤ pos 1) *ℤ c.args.strip.now.size) = omega (arith, ints, side, l.invariant.low, c.requires.size.low) in
    record {
      counts = c.add_window-first.ensures.counts;
      added = one_added c.args.strip.now.size c.args.strip.now.row l.columns.first next.result.first c.args.trap.now
          c.reserve.new.self.items l.counts.items c.add_window-first.new.counts.items
          l.invariant.added c.add_window-first.ensures.more next.ensures.first;
      columns = subst (λ (e : ℤ).
          AreColumnsOf c.args.strip.now.size c.args.trap.now c.columns_of-columns.result.first e)
          (sym next.ensures.end) l.invariant.columns;
      first = omega (arith, ints, next.ensures.first, l.invariant.first);
      end = omega (arith, ints, next.ensures.end, l.invariant.end);
      low = subst (λ (k : ℤ). neg_ℤ (pos (2 ^ 45)) ≤ℤ (k *ℤ c.args.strip.now.size)) (sym next.ensures.first) low;
      high = subst (λ (k : ℤ). ((k -ℤ pos 1) *ℤ c.args.strip.now.size) ≤ℤ pos (2 ^ 44)) (sym next.ensures.end) l.invariant.high;
      room = omega (arith, gap, end, l.invariant.room, c.add_window-first.ensures.len, c.add_window-first.ensures.capacity);
    }

pub returns-clause-ok : goal.returns-clause-ok
returns-clause-ok c =
    let l = c.loop-columns in
    let ff : FitsSigned w64 c.loop-columns.columns.first = search rules in
    let fe : FitsSigned w64 c.loop-columns.columns.end = search rules in
    let test = simp to_z-of_z at c.loop-columns-test.false in
    let last : l.columns.end ≤ℤ l.columns.first = omega (arith, ints, test) in
    λ i. all_added c.args.strip.now.size c.args.strip.now.row c.columns_of-columns.result.first l.columns.first
    l.columns.end c.args.trap.now c.reserve.new.self.items l.counts.items
    c.requires.size l.invariant.columns l.invariant.added last i
    ∙ ap (λ (xs : List Counted). count_at i xs + count_in_frame (window c.args.strip.now.size i c.args.strip.now.row) c.args.trap.now) c.reserve.ensures.items

use Rattle.std.proofs.Common.{◌≡◌, ◌+ℤ◌, pos, ℤ, ℕ, All, List, Result, Ok, Err, IfOk, ap, subst, sym, ◌∙◌}
use Rattle.std.proofs.lemmas.Result.{on_ok_weaker, on_err_weaker}
use Rattle.depot.specs.Content.{Content}
use Rattle.geo_stream.specs.Flattened.{end_to_end}
use Rattle.shot_writer.specs.declared.parts.Head.{Head}
use Rattle.field_output.specs.declared.sums.Stripes.{Stripes}
use Rattle.field_output.specs.Lists.{lists_from, AreBegun}
use Rattle.field_output.specs.Stripes.{AreStripesWritten, AreStripesPartWritten, AreStripeSums, sums_from, sums_of, with_stripe_files}
use Rattle.half_grid.specs.Trapezoids.{Trapezoid, IsShot}
use Rattle.field_split.specs.Fields.{IsFieldSize}
use Rattle.field_split.specs.Looks.{IsFieldShot, AreStripesOf}
use Rattle.field_output.specs.Meeting.{IsPlaced, HaveRows}
use Rattle.field_output.proofs.SpanLemmas.{in_order, are_placed, have_rows, are_written, are_sums, are_part, none_begun}
use Rattle.field_output.proofs.stripe_files.write_stripes.Goals as goal

legal : (shots : List Trapezoid) → All IsFieldShot shots → All IsShot shots
legal shots h = λ i d lt. (h i d lt).shot

-- the stripes as the program counts them
module _ (size size' first first' last : ℤ) (count : ℕ) (shots : List Trapezoid) (sized : IsFieldSize size) (h : All IsFieldShot shots)
    (span : AreStripesOf size shots first last)
    (e : size' ≡ size) (f : first' ≡ first) (is : (first +ℤ pos count) ≡ (last +ℤ pos 1)) where
  placed_as : All (IsPlaced size' first' count) shots
  placed_as = subst (λ (s : ℤ). All (IsPlaced s first' count) shots) (sym e) (subst (λ (k : ℤ). All (IsPlaced size k count) shots) (sym f)
      (are_placed size first last shots sized (legal shots h) span count is))

  rows_as : HaveRows size' first' count
  rows_as = subst (λ (s : ℤ). HaveRows s first' count) (sym e) (subst (λ (k : ℤ). HaveRows size k count) (sym f)
      (have_rows size first last shots sized (legal shots h) span count is))

  written_as : (before now : Content) (base : List ℕ) (h' : Head) → now ≡ with_stripe_files before base h' first'
      (lists_from size' shots first' count) → AreStripesWritten before base h' shots size first last now
  written_as before now base h' w =
      are_written size first last shots sized (legal shots h) span count is before now base h'
      (w ∙ ap (λ (s : ℤ). with_stripe_files before base h' first' (lists_from s shots first' count)) e ∙ ap (λ
      (k : ℤ). with_stripe_files before base h' k (lists_from size shots k count)) f)

  sums_as : (written : Stripes) → written.each.items ≡ sums_from first' (lists_from size' shots first' count) → written.all ≡ sums_of (end_to_end
      (lists_from size' shots first' count)) → AreStripeSums shots size first last written
  sums_as written each all =
      are_sums size first last shots sized (legal shots h) span count is written
      (each ∙ ap (λ (s : ℤ). sums_from first' (lists_from s shots first' count)) e ∙ ap (λ (k : ℤ). sums_from k (lists_from size shots k count)) f)
      (all ∙ ap (λ (s : ℤ). sums_of (end_to_end (lists_from s shots first' count))) e ∙ ap (λ (k : ℤ). sums_of (end_to_end (lists_from size shots k count))) f)

  part_as : (before now : Content) (base : List ℕ) (h' : Head) → AreBegun before base h' shots size' first' count now
      → AreStripesPartWritten before base h' shots size first last now
  part_as before now base h' b =
      are_part size first last shots sized (legal shots h) span count is before now base h'
      (subst (λ (k : ℤ). AreBegun before base h' shots size k count now) f (subst (λ (s : ℤ). AreBegun before base h' shots s first' count now) e b))

both_weaker : {T E : Type 0} {P Q R : T → Type 0} (r : Result T E) → ((x : T) → P x → Q x → R x) → IfOk r P → IfOk r Q → IfOk r R
both_weaker (Ok answer) f p q = f answer p q
both_weaker (Err bad) f p q = tt

pub of-stripes-requires-clause-low : goal.of-stripes-requires-clause-low
of-stripes-requires-clause-low g c =
    in_order c.args.fields.now c.args.span.0 c.args.span.1 c.args.shots.now (subst IsFieldSize c.size-size.ensures.value c.size-size.ensures.range)
    (legal c.args.shots.now c.requires.shots) c.requires.span

pub new-requires-clause-placed : goal.new-requires-clause-placed
new-requires-clause-placed g c =
    let s = c.of-stripes.ensures in
    placed_as c.args.fields.now c.of-stripes.result.size c.args.span.0 c.of-stripes.result.first c.args.span.1 c.of-stripes.result.count
    c.args.shots.now s.sized c.requires.shots c.requires.span s.size s.first s.count

pub write_all-requires-clause-placed : goal.write_all-requires-clause-placed
write_all-requires-clause-placed g c =
    let s = c.of-stripes.ensures in
    placed_as c.args.fields.now c.of-stripes.result.size c.args.span.0 c.of-stripes.result.first c.args.span.1 c.of-stripes.result.count
    c.args.shots.now s.sized c.requires.shots c.requires.span s.size s.first s.count

pub write_all-requires-clause-rows : goal.write_all-requires-clause-rows
write_all-requires-clause-rows g c =
    let s = c.of-stripes.ensures in
    rows_as c.args.fields.now c.of-stripes.result.size c.args.span.0 c.of-stripes.result.first c.args.span.1 c.of-stripes.result.count
    c.args.shots.now s.sized c.requires.shots c.requires.span s.size s.first s.count

pub returns-in-Ok-clause-ok : goal.returns-in-Ok-clause-ok
returns-in-Ok-clause-ok g c =
    let s = c.of-stripes.ensures in
    let at = g.D.Depot.content in
    on_ok_weaker c.write_all.result (λ w told. written_as c.args.fields.now c.of-stripes.result.size c.args.span.0 c.of-stripes.result.first
    c.args.span.1 c.of-stripes.result.count c.args.shots.now s.sized c.requires.shots c.requires.span s.size s.first s.count
    (at c.args.depot.now) (at c.write_all.new.depot) c.args.base.now c.args.head (w told)) c.write_all.ensures.ok

pub returns-in-Ok-clause-sums : goal.returns-in-Ok-clause-sums
returns-in-Ok-clause-sums g c =
    let s = c.of-stripes.ensures in
    both_weaker c.write_all.result (λ written each all. sums_as c.args.fields.now c.of-stripes.result.size c.args.span.0 c.of-stripes.result.first
    c.args.span.1 c.of-stripes.result.count c.args.shots.now s.sized c.requires.shots c.requires.span s.size s.first s.count written each all)
    c.write_all.ensures.each c.write_all.ensures.all

pub returns-in-Ok-clause-refused : goal.returns-in-Ok-clause-refused
returns-in-Ok-clause-refused g c =
    let s = c.of-stripes.ensures in
    let at = g.D.Depot.content in
    on_err_weaker c.write_all.result (λ w told. part_as c.args.fields.now c.of-stripes.result.size c.args.span.0 c.of-stripes.result.first
    c.args.span.1 c.of-stripes.result.count c.args.shots.now s.sized c.requires.shots c.requires.span s.size s.first s.count
    (at c.args.depot.now) (at c.write_all.new.depot) c.args.base.now c.args.head (w told)) c.write_all.ensures.refused

pub returns-in-Err-clause-refused : goal.returns-in-Err-clause-refused
returns-in-Err-clause-refused g c = λ told.
    none_begun c.args.fields.now c.args.span.0 c.args.span.1 c.args.shots.now c.of-stripes.ensures.sized
    (legal c.args.shots.now c.requires.shots) c.requires.span (g.D.Depot.content c.args.depot.now) c.args.base.now c.args.head

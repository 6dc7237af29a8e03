use Rattle.std.proofs.Common.{◌≡◌, ◌<◌, ◌%◌, ◌/◌, ◌*◌, ℕ, ap, sym, ◌∙◌}
use Rattle.layout_model.specs.Grids.{nth_place}
use Rattle.layout_model.specs.Hulls.{IsInBox}
use Rattle.layout_model.proofs.HullLemmas.{grid_all, grid_any, column_inside, row_inside, sums_ordered}
use Rattle.layout_model.proofs.offsets.Grid.hull.Goals as goal

pub returns : goal.returns
returns c =
    let nu = c.args.self.nu in
    let nv = c.args.self.nv in
    let u = c.args.self.u in
    let v = c.args.self.v in
    let left = c.box_between.ensures.x0 ∙ ap (λ p. p.x) c.at-left.ensures in
    let bottom = c.box_between.ensures.y0 ∙ ap (λ p. p.y) c.at-bottom.ensures in
    let right = c.box_between.ensures.x1 ∙ ap (λ p. p.x) c.at-right.ensures in
    let top = c.box_between.ensures.y1 ∙ ap (λ p. p.y) c.at-top.ensures in
    let each : (k : ℕ) → k < nu * nv → IsInBox c.box_between.result (nth_place nu u v k) = λ k h.
    let column : k % nu < nu = column_inside nu k c.requires.some_columns in
    let row : k / nu < nv = row_inside nu nv k c.requires.some_columns h in
    record {
      left = rw left (sums_ordered _ _ _ _ (c.left_step.ensures.least (k % nu) column) (c.left_step-2.ensures.least (k / nu) row));
      bottom = rw bottom (sums_ordered _ _ _ _ (c.bottom_step.ensures.least (k % nu) column) (c.bottom_step-2.ensures.least (k / nu) row));
      right = rw right (sums_ordered _ _ _ _ (c.right_step.ensures.greatest (k % nu) column) (c.right_step-2.ensures.greatest (k / nu) row));
      top = rw top (sums_ordered _ _ _ _ (c.top_step.ensures.greatest (k % nu) column) (c.top_step-2.ensures.greatest (k / nu) row));
    } in
    record {
      around = grid_all (IsInBox c.box_between.result) nu nv u v each;
      left = grid_any (λ p. p.x ≡ c.box_between.result.x0) nu nv u v c.left_step.result c.left_step-2.result
          c.left_step.ensures.inside c.left_step-2.ensures.inside (sym left);
      bottom = grid_any (λ p. p.y ≡ c.box_between.result.y0) nu nv u v c.bottom_step.result c.bottom_step-2.result
          c.bottom_step.ensures.inside c.bottom_step-2.ensures.inside (sym bottom);
      right = grid_any (λ p. p.x ≡ c.box_between.result.x1) nu nv u v c.right_step.result c.right_step-2.result
          c.right_step.ensures.inside c.right_step-2.ensures.inside (sym right);
      top = grid_any (λ p. p.y ≡ c.box_between.result.y1) nu nv u v c.top_step.result c.top_step-2.result
          c.top_step.ensures.inside c.top_step-2.ensures.inside (sym top);
    }

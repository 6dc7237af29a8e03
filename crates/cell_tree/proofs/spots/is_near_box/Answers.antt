use Rattle.cell_tree.proofs.spots.is_near_box.Goals as goal

pub returns : goal.returns
returns c = λ yes.
    let low = c.is_low_near.ensures c.if-not-is_low_near.false in
    let high = c.is_high_near.ensures yes in
    record {
      x0 = record { low = low.x_low; high = low.x_high };
      y0 = record { low = low.y_low; high = low.y_high };
      x1 = record { low = high.x_low; high = high.x_high };
      y1 = record { low = high.y_low; high = high.y_high };
    }

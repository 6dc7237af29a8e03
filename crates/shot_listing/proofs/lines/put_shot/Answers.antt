use Rattle.std.proofs.Common.{rules}
use Rattle.std.specs.Fmt.{signed_decimal}
use Rattle.half_grid.specs.Lines.{x_on}
use Rattle.shot_listing.specs.Listing.{shot_line}
use Rattle.shot_listing.proofs.Fields.{field, six_fields}
use Rattle.shot_listing.proofs.lines.put_shot.Goals as goal

pub returns : goal.returns
unfolding shot_line
returns c =
    let z = c.args.shot.now in
    six_fields
    c.args.buffer.now c.put_field.new.buffer c.put_field-2.new.buffer c.put_field-3.new.buffer c.put_field-4.new.buffer
    c.put_field-5.new.buffer c.put_field-6.new.buffer
    (signed_decimal z.y0) (signed_decimal z.y1) (signed_decimal (x_on z.left z.y0))
    (signed_decimal (x_on z.right z.y0)) (signed_decimal (x_on z.left z.y1)) (signed_decimal (x_on z.right z.y1))
    (field _ _ c.y0.result z.y0 _ (search rules) c.y0.ensures.value c.put_field.ensures.value)
    (field _ _ c.y1.result z.y1 _ (search rules) c.y1.ensures.value c.put_field-2.ensures.value)
    (field _ _ c.bottom_left.result (x_on z.left z.y0) _ (search rules) c.bottom_left.ensures.value c.put_field-3.ensures.value)
    (field _ _ c.bottom_right.result (x_on z.right z.y0) _ (search rules) c.bottom_right.ensures.value c.put_field-4.ensures.value)
    (field _ _ c.top_left.result (x_on z.left z.y1) _ (search rules) c.top_left.ensures.value c.put_field-5.ensures.value)
    (field _ _ c.top_right.result (x_on z.right z.y1) _ (search rules) c.top_right.ensures.value c.put_field-6.ensures.value)

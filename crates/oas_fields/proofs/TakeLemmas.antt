-- The values of the fields of a record, by what it writes and by the values before it.
use Rattle.std.proofs.Common.{◌≡◌, ℤ, Bool, true, false, Option, Some, None, List, [], ◌∷◌, refl, sym, ap, ◌∙◌, arith}
use Rattle.std.proofs.lemmas.Int.{ints}
use Rattle.oas_record.specs.Taken.{polygon_points_in, path_points_in, repetition_in}
use Rattle.oas_record.specs.declared.records.OasRecord.{OasRecord}
use Rattle.oas_record.specs.declared.taking.Lists.{Lists}
use Rattle.oas_fields.specs.Steps.{AreWritten, AreKept, value_or, height_by, coordinate_moved, place_moved}
use Rattle.oas_fields.specs.Values.{AreFields, or_else, begins_cell, last_written, layer_of, datatype_of, width_of}
use Rattle.oas_fields.specs.Values.{height_of, height_written, polygon_points_of, half_width_of, length_of, start_of}
use Rattle.oas_fields.specs.Values.{end_of, path_points_of, kind_of, cell_of, repetition_of, or_false, is_relative}
use Rattle.oas_fields.specs.Values.{coordinate, place_of}
use Rattle.oas_fields.specs.Writes.{writes_of, repetition_by, repetition_written}
use Rattle.oas_fields.specs.declared.fields.Fields.{Fields}
use Rattle.oas_fields.specs.declared.places.Place.{Place}
use Rattle.oas_fields.specs.declared.places.Step.{Step}

-- ---- a record that doesn't begin a cell

written_on : {A : Type 0} (written : List OasRecord → OasRecord → Option A) (r : OasRecord) (past : List OasRecord)
    → begins_cell r ≡ false → last_written written (r ∷ past) ≡ or_else (written past r) (last_written written past)
written_on written r past e = rw e refl

layer_on : (r : OasRecord) (past : List OasRecord) → begins_cell r ≡ false → layer_of (r ∷ past) ≡ or_else (writes_of r).layer (layer_of past)
unfolding layer_of
layer_on r past e = written_on (λ _ r. (writes_of r).layer) r past e

datatype_on : (r : OasRecord) (past : List OasRecord) → begins_cell r ≡ false → datatype_of (r ∷ past) ≡ or_else (writes_of r).datatype (datatype_of past)
unfolding datatype_of
datatype_on r past e = written_on (λ _ r. (writes_of r).datatype) r past e

width_on : (r : OasRecord) (past : List OasRecord) → begins_cell r ≡ false → width_of (r ∷ past) ≡ or_else (writes_of r).width (width_of past)
unfolding width_of
width_on r past e = written_on (λ _ r. (writes_of r).width) r past e

height_on : (r : OasRecord) (past : List OasRecord) → begins_cell r ≡ false → height_of (r ∷ past) ≡ or_else (height_written past r) (height_of past)
unfolding height_of
height_on r past e = written_on height_written r past e

polygon_points_on : (r : OasRecord) (past : List OasRecord) → begins_cell r ≡ false
    → polygon_points_of (r ∷ past) ≡ or_else (polygon_points_in r) (polygon_points_of past)
unfolding polygon_points_of
polygon_points_on r past e = written_on (λ _ r. polygon_points_in r) r past e

half_width_on : (r : OasRecord) (past : List OasRecord) → begins_cell r ≡ false
    → half_width_of (r ∷ past) ≡ or_else (writes_of r).half_width (half_width_of past)
unfolding half_width_of
half_width_on r past e = written_on (λ _ r. (writes_of r).half_width) r past e

start_on : (r : OasRecord) (past : List OasRecord) → begins_cell r ≡ false
    → start_of (r ∷ past) ≡ or_else (length_of (half_width_of (r ∷ past)) (writes_of r).start) (start_of past)
unfolding start_of
start_on r past e = written_on (λ before r. length_of (half_width_of (r ∷ before)) (writes_of r).start) r past e

end_on : (r : OasRecord) (past : List OasRecord) → begins_cell r ≡ false
    → end_of (r ∷ past) ≡ or_else (length_of (half_width_of (r ∷ past)) (writes_of r).end) (end_of past)
unfolding end_of
end_on r past e = written_on (λ before r. length_of (half_width_of (r ∷ before)) (writes_of r).end) r past e

path_points_on : (r : OasRecord) (past : List OasRecord) → begins_cell r ≡ false → path_points_of (r ∷ past) ≡ or_else (path_points_in r) (path_points_of past)
unfolding path_points_of
path_points_on r past e = written_on (λ _ r. path_points_in r) r past e

kind_on : (r : OasRecord) (past : List OasRecord) → begins_cell r ≡ false → kind_of (r ∷ past) ≡ or_else (writes_of r).kind (kind_of past)
unfolding kind_of
kind_on r past e = written_on (λ _ r. (writes_of r).kind) r past e

cell_on : (r : OasRecord) (past : List OasRecord) → begins_cell r ≡ false → cell_of (r ∷ past) ≡ or_else (writes_of r).cell (cell_of past)
unfolding cell_of
cell_on r past e = written_on (λ _ r. (writes_of r).cell) r past e

repetition_on : (r : OasRecord) (past : List OasRecord) → begins_cell r ≡ false → repetition_of (r ∷ past) ≡ or_else (repetition_written r) (repetition_of past)
unfolding repetition_of
repetition_on r past e = written_on (λ _ r. repetition_written r) r past e

either_mode : (written before : Option Bool) → or_false (or_else written before) ≡ value_or written (or_false before)
either_mode None before = refl
either_mode (Some mode) before = refl

mode_on : (r : OasRecord) (past : List OasRecord) → begins_cell r ≡ false → is_relative (r ∷ past) ≡ value_or (writes_of r).is_relative (is_relative past)
unfolding is_relative
mode_on r past e =
    ap or_false (written_on (λ _ r. (writes_of r).is_relative) r past e)
    ∙ either_mode (writes_of r).is_relative (last_written (λ _ r. (writes_of r).is_relative) past)

coordinate_on : (written : OasRecord → Option ℤ) (r : OasRecord) (past : List OasRecord) (mode : Bool) (step : Option ℤ)
    → begins_cell r ≡ false → is_relative past ≡ mode → written r ≡ step → coordinate written (r ∷ past) ≡ coordinate_moved mode step (coordinate written past)
unfolding coordinate
coordinate_on written r past true None e m w = rw (e, m, w) (omega (arith, ints))
coordinate_on written r past false None e m w = rw (e, m, w) (omega (arith, ints))
coordinate_on written r past true (Some z) e m w = rw (e, m, w) (omega (arith, ints))
coordinate_on written r past false (Some z) e m w = rw (e, m, w) (omega (arith, ints))

abbrev place : ℤ → ℤ → Place
place x y = record { x = x; y = y }

place_is : (a b c d : ℤ) → a ≡ c → b ≡ d → place a b ≡ place c d
place_is a b c d first second = ap (λ x. place x b) first ∙ ap (place c) second

place_on : (written : OasRecord → Step) (r : OasRecord) (past : List OasRecord) → begins_cell r ≡ false
    → place_of written (r ∷ past) ≡ place_moved (is_relative past) (written r) (place_of written past)
unfolding place_of
place_on written r past e =
    place_is _ _ _ _ (coordinate_on (λ r. (written r).x) r past _ _ e refl refl) (coordinate_on (λ r. (written r).y) r past _ _ e refl refl)

-- ---- a record that begins a cell

written_anew : {A : Type 0} (written : List OasRecord → OasRecord → Option A) (r : OasRecord) (past : List OasRecord)
    → begins_cell r ≡ true → last_written written (r ∷ past) ≡ None
written_anew written r past e = rw e refl

coordinate_anew : (written : OasRecord → Option ℤ) (r : OasRecord) (past : List OasRecord) → begins_cell r ≡ true
    → coordinate written (r ∷ past) ≡ coordinate written []
unfolding coordinate
coordinate_anew written r past e = rw e refl

place_anew : (written : OasRecord → Step) (r : OasRecord) (past : List OasRecord) → begins_cell r ≡ true → place_of written (r ∷ past) ≡ place_of written []
unfolding place_of
place_anew written r past e =
    place_is _ _ _ _ (coordinate_anew (λ r. (written r).x) r past e) (coordinate_anew (λ r. (written r).y) r past e)

pub taken_anew : (r : OasRecord) (past : List OasRecord) (fields : Fields) → begins_cell r ≡ true → AreFields [] fields → AreFields (r ∷ past) fields
unfolding is_relative layer_of datatype_of width_of height_of polygon_points_of half_width_of start_of end_of path_points_of kind_of cell_of repetition_of
taken_anew r past fields e none = record {
  mode = none.mode ∙ sym (ap or_false (written_anew (λ _ r. (writes_of r).is_relative) r past e));
  layer = none.layer ∙ sym (written_anew (λ _ r. (writes_of r).layer) r past e);
  datatype = none.datatype ∙ sym (written_anew (λ _ r. (writes_of r).datatype) r past e);
  width = none.width ∙ sym (written_anew (λ _ r. (writes_of r).width) r past e);
  height = none.height ∙ sym (written_anew height_written r past e);
  polygon_points = none.polygon_points ∙ sym (written_anew (λ _ r. polygon_points_in r) r past e);
  half_width = none.half_width ∙ sym (written_anew (λ _ r. (writes_of r).half_width) r past e);
  start = none.start ∙ sym (written_anew (λ before r. length_of (half_width_of (r ∷ before)) (writes_of r).start) r past e);
  end = none.end ∙ sym (written_anew (λ before r. length_of (half_width_of (r ∷ before)) (writes_of r).end) r past e);
  path_points = none.path_points ∙ sym (written_anew (λ _ r. path_points_in r) r past e);
  kind = none.kind ∙ sym (written_anew (λ _ r. (writes_of r).kind) r past e);
  cell = none.cell ∙ sym (written_anew (λ _ r. (writes_of r).cell) r past e);
  repetition = none.repetition ∙ sym (written_anew (λ _ r. repetition_written r) r past e);
  placement = none.placement ∙ sym (place_anew (λ r. (writes_of r).placement) r past e);
  geometry = none.geometry ∙ sym (place_anew (λ r. (writes_of r).geometry) r past e);
  text = none.text ∙ sym (place_anew (λ r. (writes_of r).text) r past e);
}

-- ---- both

-- the lists of a record
pub record AreListsOf (r : OasRecord) (lists : Lists) : Type 0 where
  pub polygon_points : lists.polygon_points ≡ polygon_points_in r
  pub path_points : lists.path_points ≡ path_points_in r
  pub repetition : lists.repetition ≡ repetition_in r

pub taken_on : (r : OasRecord) (past : List OasRecord) (lists : Lists) (old mid new : Fields) → begins_cell r ≡ false → AreFields past old
    → AreWritten (writes_of r) old mid → AreListsOf r lists → AreKept lists mid new → AreFields (r ∷ past) new
taken_on r past lists old mid new e before w l k =
    let width : new.width ≡ width_of (r ∷ past) = k.width ∙ w.width ∙ ap (or_else (writes_of r).width) before.width ∙ sym (width_on r past e) in
    let half_width : new.half_width ≡ half_width_of (r ∷ past) =
    k.half_width ∙ w.half_width ∙ ap (or_else (writes_of r).half_width) before.half_width ∙ sym (half_width_on r past e) in record {
      mode = k.mode ∙ w.mode ∙ ap (value_or (writes_of r).is_relative) before.mode ∙ sym (mode_on r past e);
      layer = k.layer ∙ w.layer ∙ ap (or_else (writes_of r).layer) before.layer ∙ sym (layer_on r past e);
      datatype = k.datatype ∙ w.datatype ∙ ap (or_else (writes_of r).datatype) before.datatype ∙ sym (datatype_on r past e);
      width = width;
      height =
          k.height ∙ w.height ∙ ap (λ x. or_else (height_by (writes_of r) x) old.height) (sym k.width ∙ width)
          ∙ ap (or_else (height_by (writes_of r) (width_of (r ∷ past)))) before.height ∙ sym (height_on r past e);
      polygon_points =
          k.polygon_points ∙ ap (λ x. or_else x mid.polygon_points) l.polygon_points
          ∙ ap (or_else (polygon_points_in r)) (w.polygon_points ∙ before.polygon_points) ∙ sym (polygon_points_on r past e);
      half_width = half_width;
      start =
          k.start ∙ w.start ∙ ap (λ x. or_else (length_of x (writes_of r).start) old.start) (sym k.half_width ∙ half_width)
          ∙ ap (or_else (length_of (half_width_of (r ∷ past)) (writes_of r).start)) before.start ∙ sym (start_on r past e);
      end =
          k.end ∙ w.end ∙ ap (λ x. or_else (length_of x (writes_of r).end) old.end) (sym k.half_width ∙ half_width)
          ∙ ap (or_else (length_of (half_width_of (r ∷ past)) (writes_of r).end)) before.end ∙ sym (end_on r past e);
      path_points =
          k.path_points ∙ ap (λ x. or_else x mid.path_points) l.path_points
          ∙ ap (or_else (path_points_in r)) (w.path_points ∙ before.path_points) ∙ sym (path_points_on r past e);
      kind = k.kind ∙ w.kind ∙ ap (or_else (writes_of r).kind) before.kind ∙ sym (kind_on r past e);
      cell = k.cell ∙ w.cell ∙ ap (or_else (writes_of r).cell) before.cell ∙ sym (cell_on r past e);
      repetition =
          k.repetition ∙ ap (λ x. or_else (repetition_by x) mid.repetition) l.repetition
          ∙ ap (or_else (repetition_by (repetition_in r))) (w.repetition ∙ before.repetition) ∙ sym (repetition_on r past e);
      placement =
          k.placement ∙ w.placement ∙ ap (λ m. place_moved m (writes_of r).placement old.placement) before.mode
          ∙ ap (place_moved (is_relative past) (writes_of r).placement) before.placement ∙ sym (place_on (λ r. (writes_of r).placement) r past e);
      geometry =
          k.geometry ∙ w.geometry ∙ ap (λ m. place_moved m (writes_of r).geometry old.geometry) before.mode
          ∙ ap (place_moved (is_relative past) (writes_of r).geometry) before.geometry ∙ sym (place_on (λ r. (writes_of r).geometry) r past e);
      text =
          k.text ∙ w.text ∙ ap (λ m. place_moved m (writes_of r).text old.text) before.mode
          ∙ ap (place_moved (is_relative past) (writes_of r).text) before.text ∙ sym (place_on (λ r. (writes_of r).text) r past e);
    }

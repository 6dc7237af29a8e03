-- The last value of each field, kept from record to record.
use Rattle.std.specs.Prelude.{◌≡◌, List, Some, pos, unwrap_or}
use Rattle.oas_lex.specs.declared.fields.ShotFields.{ShotFields}
use Rattle.shot_repeat.specs.Values.{newer, last_written}
use Rattle.shot_repeat.specs.declared.modal.Modal.{Modal}
use Rattle.shot_repeat.specs.declared.record.PackRecord.{PackRecord}

-- the values after one more record
abbrev pub updated : Modal → PackRecord → Modal
updated m r = record {
  layer = newer r.layer m.layer;
  datatype = newer r.datatype m.datatype;
  width = newer r.width m.width;
  height = newer r.height m.height;
  x = unwrap_or r.x m.x;
  y = unwrap_or r.y m.y;
}

-- the values are the last that these records write
pub record AreLast (before : List PackRecord) (m : Modal) : Type 0 where
  pub layer : m.layer ≡ last_written (λ (s : PackRecord). s.layer) before
  pub datatype : m.datatype ≡ last_written (λ (s : PackRecord). s.datatype) before
  pub width : m.width ≡ last_written (λ (s : PackRecord). s.width) before
  pub height : m.height ≡ last_written (λ (s : PackRecord). s.height) before
  pub x : m.x ≡ unwrap_or (last_written (λ (s : PackRecord). s.x) before) (pos 0)
  pub y : m.y ≡ unwrap_or (last_written (λ (s : PackRecord). s.y) before) (pos 0)

-- the fields of the first shot of a record, by the last values after it
pub record IsShown (m : Modal) (r : PackRecord) (f : ShotFields) : Type 0 where
  pub layer : m.layer ≡ Some f.layer
  pub datatype : m.datatype ≡ Some f.datatype
  pub width : m.width ≡ Some f.width
  pub height : m.height ≡ Some f.height
  pub left : f.left_delta ≡ r.left_delta
  pub right : f.right_delta ≡ r.right_delta
  pub x : f.x ≡ m.x
  pub y : f.y ≡ m.y

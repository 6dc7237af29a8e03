-- A RECTANGLE without a repetition whose id and info byte are looked at.
use Rattle.std.proofs.Common.{◌≡◌, ◌+◌, ℕ, Bool, false, None, List, arith, inr, refl, ap, sym, subst, ◌∙◌}
use Rattle.oas_lex.proofs.ForCallers.{pair_is}
use Rattle.oas_record.specs.Parts.{IsOf}
use Rattle.oas_record.specs.Plain.{BeginsPlainly, rectangle_of}
use Rattle.oas_record.specs.Records.{HasRecord, NoRow, row_at}
use Rattle.oas_record.specs.declared.faults.RecordBad.{RecordBad}
use Rattle.oas_record.specs.declared.plain.PlainRectangle.{PlainRectangle}
use Rattle.oas_record.specs.declared.records.OasRecord.{OasRecord}
use Rattle.oas_record.specs.declared.records.OasRecord.TheVariants as records
use Rattle.oas_record.specs.declared.shapes.ShapeKind.TheVariants as shapes
use Rattle.oas_record.proofs.RecordLemmas.{record_there}
use Rattle.oas_record.proofs.RecordReaders.{one_record}

pub rectangle_there : (bytes : List ℕ) (at : ℕ) (tables : Bool) (p : PlainRectangle) (next : ℕ) → BeginsPlainly bytes at
    → IsOf 20 false bytes (at + 1) (rectangle_of p) next → HasRecord bytes at tables (rectangle_of p) next
rectangle_there bytes at tables p next b h =
    record_there bytes at 20 tables (rectangle_of p) next (omega (arith, b.within)) (sym b.id) (record { id_is = h.id_is; row = h.row })

pub rectangle_missing : (bytes : List ℕ) (at : ℕ) (tables : Bool) (p : PlainRectangle) (next : ℕ) (bad : RecordBad) → BeginsPlainly bytes at
    → NoRow (row_at 20) 20 false bytes (at + 1) bad → HasRecord bytes at tables (rectangle_of p) next → ⊥
rectangle_missing bytes at tables p next bad b f h = (one_record bytes at tables).apart (rectangle_of p, next) bad h
    (inr (record { within = omega (arith, b.within); fails = subst (λ k. NoRow (row_at k) k tables bytes (at + 1) bad) (sym b.id) f }))

-- the rectangle that a record is
plain_of : OasRecord → PlainRectangle
plain_of (records.Shape head (shapes.Rectangle width height)) =
    record { info = head.info; layer = head.layer; datatype = head.datatype; width = width; height = height; x = head.x; y = head.y }
plain_of _ = record { info = 0; layer = None; datatype = None; width = None; height = None; x = None; y = None }

plain_back : (p : PlainRectangle) → plain_of (rectangle_of p) ≡ p
unfolding plain_of
plain_back p = refl

pub one_rectangle : (bytes : List ℕ) (at : ℕ) (tables : Bool) (v w : PlainRectangle × ℕ) → HasRecord bytes at tables (rectangle_of v.0) v.1
    → HasRecord bytes at tables (rectangle_of w.0) w.1 → v ≡ w
one_rectangle bytes at tables v w h k =
    let same = (one_record bytes at tables).one (rectangle_of v.0, v.1) (rectangle_of w.0, w.1) h k in
    pair_is v w (sym (plain_back v.0) ∙ (ap (λ p. plain_of p.0) same ∙ plain_back w.0)) (ap (λ p. p.1) same)

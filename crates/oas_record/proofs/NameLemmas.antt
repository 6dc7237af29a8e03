-- The record of a name, by what is named.
use Rattle.std.proofs.Common.{◌+◌, ℕ, Bool, true, false, Some, None, List, [], ◌∷◌, inl, inr, refl}
use Rattle.oas_lex.specs.Numbers.{HasUnsigned}
use Rattle.oas_lex.specs.Strings.{HasText}
use Rattle.oas_record.specs.Faults.{NoNumber, NoText}
use Rattle.oas_record.specs.Parts.{IsOf, NotOf, layer_name_id}
use Rattle.oas_record.specs.Records.{name_id}
use Rattle.oas_record.specs.Rows.{Text, Range, IsSpan, Always, when, NoFields}
use Rattle.oas_record.specs.Values.{HasInterval}
use Rattle.oas_record.specs.declared.faults.RecordBad.{RecordBad}
use Rattle.oas_record.specs.declared.fields.Interval.{Interval}
use Rattle.oas_record.specs.declared.records.NameKind.{NameKind}
use Rattle.oas_record.specs.declared.records.NameKind.TheVariants as names
use Rattle.oas_record.specs.declared.records.OasRecord.TheVariants as records

pub name_there : (kind : NameKind) (bytes : List ℕ) (at : ℕ) (text : ℕ × ℕ) → HasText bytes at text.0 text.1
    → IsOf (name_id kind) false bytes at (records.Name kind text None) text.1
name_there names.Cell bytes at text h = record { id_is = refl; row = (refl, (text.1, (text.0, h, refl), refl)) }
name_there names.Text bytes at text h = record { id_is = refl; row = (refl, (text.1, (text.0, h, refl), refl)) }
name_there names.Property bytes at text h = record { id_is = refl; row = (refl, (text.1, (text.0, h, refl), refl)) }
name_there names.PropertyString bytes at text h = record { id_is = refl; row = (refl, (text.1, (text.0, h, refl), refl)) }

pub no_name : (kind : NameKind) (bytes : List ℕ) (at : ℕ) (bad : RecordBad) → NoText bytes at bad → NotOf (name_id kind) false bytes at bad
no_name names.Cell bytes at bad h = inl h
no_name names.Text bytes at bad h = inl h
no_name names.Property bytes at bad h = inl h
no_name names.PropertyString bytes at bad h = inl h

pub numbered_name_there : (kind : NameKind) (bytes : List ℕ) (at : ℕ) (text : ℕ × ℕ) (number next : ℕ) → HasText bytes at text.0 text.1
    → HasUnsigned bytes text.1 number next → IsOf (name_id kind + 1) false bytes at (records.Name kind text (Some number)) next
numbered_name_there names.Cell bytes at text number next h k =
    record { id_is = refl; row = (refl, (text.1, (text.0, h, refl), (next, (number, k, refl), refl))) }
numbered_name_there names.Text bytes at text number next h k =
    record { id_is = refl; row = (refl, (text.1, (text.0, h, refl), (next, (number, k, refl), refl))) }
numbered_name_there names.Property bytes at text number next h k =
    record { id_is = refl; row = (refl, (text.1, (text.0, h, refl), (next, (number, k, refl), refl))) }
numbered_name_there names.PropertyString bytes at text number next h k =
    record { id_is = refl; row = (refl, (text.1, (text.0, h, refl), (next, (number, k, refl), refl))) }

pub no_text_of_name : (kind : NameKind) (bytes : List ℕ) (at : ℕ) (bad : RecordBad) → NoText bytes at bad → NotOf (name_id kind + 1) false bytes at bad
no_text_of_name names.Cell bytes at bad h = inl h
no_text_of_name names.Text bytes at bad h = inl h
no_text_of_name names.Property bytes at bad h = inl h
no_text_of_name names.PropertyString bytes at bad h = inl h

pub no_number_of_name : (kind : NameKind) (bytes : List ℕ) (at : ℕ) (text : ℕ × ℕ) (bad : RecordBad) → HasText bytes at text.0 text.1
    → NoNumber bytes text.1 bad → NotOf (name_id kind + 1) false bytes at bad
no_number_of_name names.Cell bytes at text bad h k = inr (IsSpan text, text.1, (text.0, h, refl), inl k)
no_number_of_name names.Text bytes at text bad h k = inr (IsSpan text, text.1, (text.0, h, refl), inl k)
no_number_of_name names.Property bytes at text bad h k = inr (IsSpan text, text.1, (text.0, h, refl), inl k)
no_number_of_name names.PropertyString bytes at text bad h k = inr (IsSpan text, text.1, (text.0, h, refl), inl k)

-- ---- names of layers

pub layers_there : (of_texts : Bool) (bytes : List ℕ) (at : ℕ) (name : ℕ × ℕ) (layers : Interval) (third : ℕ) (datatypes : Interval) (next : ℕ)
    → HasText bytes at name.0 name.1 → HasInterval bytes name.1 layers third → HasInterval bytes third datatypes next
    → IsOf (layer_name_id of_texts) false bytes at (records.LayerName of_texts name layers datatypes) next
layers_there false bytes at name layers third datatypes next h k l =
    record { id_is = refl; row = (refl, (name.1, (name.0, h, refl), (third, (layers, k, refl), (next, (datatypes, l, refl), refl)))) }
layers_there true bytes at name layers third datatypes next h k l =
    record { id_is = refl; row = (refl, (name.1, (name.0, h, refl), (third, (layers, k, refl), (next, (datatypes, l, refl), refl)))) }

pub layers_missing : (of_texts : Bool) (bytes : List ℕ) (at : ℕ) (bad : RecordBad)
    → NoFields (when Always Text ∷ when Always Range ∷ when Always Range ∷ []) 0 bytes at bad → NotOf (layer_name_id of_texts) false bytes at bad
layers_missing false bytes at bad h = h
layers_missing true bytes at bad h = h

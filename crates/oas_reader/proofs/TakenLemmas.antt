-- What is kept and what is refused of one record.
use Rattle.std.proofs.Common.{◌≡◌, ℕ, ◌^◌, Bool, true, false, Option, Some, None, List, [], ◌∷◌, pos, refl, sym, ap, subst, ◌∙◌, ◌⊎◌, inl, inr, arith}
use Rattle.std.specs.Prelude.{◌↔◌, IfSome, IsTrue}
use Rattle.std.proofs.lemmas.Int.{ints}
use Rattle.geo_stream.specs.Refusals.{IsForFault}
use Rattle.geo_stream.specs.declared.refusal.Refusal.{Refusal}
use Rattle.geo_stream.specs.declared.refusal.Refusal.TheVariants.{Fault, NoMemory}
use Rattle.layout_model.specs.declared.cells.Counts.{Counts}
use Rattle.layout_model.specs.declared.pair.Pair.{Pair}
use Rattle.oas_record.specs.Plain.{rectangle_of}
use Rattle.oas_record.specs.Records.{id_of}
use Rattle.oas_record.specs.Taken.{repetition_in}
use Rattle.oas_record.specs.declared.plain.PlainRectangle.{PlainRectangle}
use Rattle.oas_record.specs.declared.records.OasRecord.{OasRecord}
use Rattle.oas_fields.specs.Values.{AreFields, ArePlacesWithin, IsPlaceWithin, begins_cell, place_of, coordinate}
use Rattle.oas_fields.specs.Values.{cell_of, placement_of, geometry_of, text_of, repetition_of}
use Rattle.oas_fields.specs.declared.fields.Fields.{Fields}
use Rattle.oas_fields.specs.declared.places.Place.{Place as APlace}
use Rattle.oas_shapes.specs.Repetitions.{HasDimensionsIn}
use Rattle.oas_reader.specs.Bodies.{body_of}
use Rattle.oas_reader.specs.Drawn.{with_record}
use Rattle.oas_reader.specs.Files.{KeepsFile, BreaksFile, tables_by, IsBodyKept, IsBadBody}
use Rattle.oas_reader.specs.Items.{Item, records_in, tables_at_end}
use Rattle.oas_reader.specs.Meaning.{counts_of, is_wanted}
use Rattle.oas_reader.specs.Names.{conflict_of}
use Rattle.oas_reader.specs.Naming.{AreCalledWithin, AreNamesOf, HaveSpans, IsSpan, given_in, text_by}
use Rattle.oas_reader.specs.Order.{ids_of, may_follow, is_in_order}
use Rattle.oas_reader.specs.Places.{IsPlace}
use Rattle.oas_reader.specs.Plain.{plain}
use Rattle.oas_reader.specs.Readers.{AreDraftsOf}
use Rattle.oas_reader.specs.Reading.{item, IsItemAllowed, IsRefused}
use Rattle.oas_reader.specs.Rules.{KeepsToOthers}
use Rattle.oas_reader.specs.Taking.{IsTaken, wanting_of, KeepsOwnName, AreValuesKept, IsBadValue, IsBadName}
use Rattle.oas_reader.specs.Undefined.{is_there}
use Rattle.layout_model.specs.Pairs.{AreSamePairs}
use Rattle.oas_reader.specs.declared.bodies.Body.{Body}
use Rattle.oas_reader.specs.declared.bodies.Body.TheVariants as bodies
use Rattle.oas_reader.specs.declared.bodies.Outline.{Outline}
use Rattle.oas_reader.specs.declared.cells.Drafts.{Drafts}
use Rattle.oas_reader.specs.declared.naming.Given.{Given}
use Rattle.oas_reader.specs.declared.naming.Names.{Names}
use Rattle.oas_reader.specs.declared.order.Place.{Place}
use Rattle.oas_reader.specs.declared.refusing.OasBad.{OasBad}
use Rattle.oas_reader.proofs.BodyLemmas.{own_name, tables_is, unit_kept, tail_kept, BreaksUnit, BreaksTail, file_broken}
use Rattle.oas_reader.proofs.CountLemmas.{counted}

-- ---- before the first record

near_none : (place : APlace) → place.x ≡ pos 0 → place.y ≡ pos 0 → IsPlaceWithin (2 ^ 40) place
near_none place x y = record {
  x_low = omega (arith, ints, x);
  x_high = omega (arith, ints, x);
  y_low = omega (arith, ints, y);
  y_high = omega (arith, ints, y);
}

placement_first : IsPlaceWithin (2 ^ 40) (placement_of [])
unfolding place_of coordinate
placement_first = near_none _ refl refl

geometry_first : IsPlaceWithin (2 ^ 40) (geometry_of [])
unfolding place_of coordinate
geometry_first = near_none _ refl refl

text_first : IsPlaceWithin (2 ^ 40) (text_of [])
unfolding place_of coordinate
text_first = near_none _ refl refl

pub near_first : (fields : Fields) → AreFields [] fields → ArePlacesWithin (2 ^ 40) fields
near_first fields a = record {
  placement = subst (IsPlaceWithin (2 ^ 40)) (sym a.placement) placement_first;
  geometry = subst (IsPlaceWithin (2 ^ 40)) (sym a.geometry) geometry_first;
  text = subst (IsPlaceWithin (2 ^ 40)) (sym a.text) text_first;
}

cell_none : (bytes : List ℕ) → AreCalledWithin bytes (cell_of [])
unfolding cell_of
cell_none bytes = tt

pub cell_first : (bytes : List ℕ) (fields : Fields) → AreFields [] fields → AreCalledWithin bytes fields.cell
cell_first bytes fields a = subst (AreCalledWithin bytes) (sym a.cell) (cell_none bytes)

span_first : (bytes : List ℕ) (o : Option Given) → text_by bytes o ≡ None → IfSome o (λ given. IsSpan bytes (given.first, given.next))
span_first bytes None e = tt
span_first bytes (Some given) e = absurd (cc)

pub spans_first : (bytes : List ℕ) (names : Names) → AreNamesOf bytes [] names → HaveSpans bytes names
spans_first bytes names a number = span_first bytes (given_in names number) (a.texts number)

-- ---- values and names

bool_cases : (b : Bool) → (b ≡ true) ⊎ (b ≡ false)
bool_cases true = inl refl
bool_cases false = inr refl

pub drafts_on : (wanted : List Pair) (past : List Item) (at : ℕ) (r : OasRecord) (old valued named : Drafts)
    → (begins_cell r ≡ false → AreDraftsOf wanted (item at r ∷ past) valued) → (begins_cell r ≡ false → named ≡ valued)
    → (begins_cell r ≡ true → valued ≡ old)
    → (begins_cell r ≡ true → AreDraftsOf wanted past valued → AreDraftsOf wanted (item at r ∷ past) named)
    → AreDraftsOf wanted past old → AreDraftsOf wanted (item at r ∷ past) named
drafts_on wanted past at r old valued named within same begins begun are = elim (bool_cases (begins_cell r)) [
  | inl new ↦ begun new (subst (AreDraftsOf wanted past) (sym (begins new)) are)
  | inr more ↦ subst (AreDraftsOf wanted (item at r ∷ past)) (sym (same more)) (within more)
]

pub counts_on : (wanted : List Pair) (bytes : List ℕ) (past : List OasRecord) (r : OasRecord) (wanting : Option Bool) (body : Body) (old new : Counts)
    → new ≡ with_record wanting body old → wanting ≡ wanting_of wanted past r → body ≡ body_of r → old ≡ counts_of wanted past
    → AreValuesKept bytes wanted past r → new ≡ counts_of wanted (r ∷ past)
counts_on wanted bytes past r wanting body old new e w b o kept =
    let other : KeepsToOthers (is_wanted wanted (r ∷ past)) r = (kept.rules 7 (λ two. absurd (omega (arith, two)))).other refl in
    e
    ∙ ap (λ x. with_record x body old) w
    ∙ ap (λ x. with_record (wanting_of wanted past r) x old) b
    ∙ ap (λ x. with_record (wanting_of wanted past r) (body_of r) x) o
    ∙ counted wanted past r other

pub body_kept : (bytes : List ℕ) (wanted : List Pair) (past : List Item) (r : OasRecord) → AreValuesKept bytes wanted (records_in past) r
    → KeepsOwnName bytes r → conflict_of bytes past r ≡ None → IsBodyKept bytes wanted past r
body_kept bytes wanted past r kept own new = record { defined = kept.defined; rules = λ rule. kept.rules rule (λ _. own); names = new }

pub bad_value : (bytes : List ℕ) (wanted : List Pair) (past : List Item) (at : ℕ) (r : OasRecord) (refusal : Refusal OasBad)
    → IsForFault (IsBadValue bytes wanted (records_in past) at r) refusal → IsForFault (IsBadBody bytes wanted past at r) refusal
bad_value bytes wanted past at r (Fault bad) (inl f) = inl f
bad_value bytes wanted past at r (Fault bad) (inr f) = inr (inl f)
bad_value bytes wanted past at r NoMemory h = tt

pub bad_name : (bytes : List ℕ) (wanted : List Pair) (past : List Item) (at : ℕ) (r : OasRecord) (refusal : Refusal OasBad)
    → AreValuesKept bytes wanted (records_in past) r → IsForFault (IsBadName bytes past at r) refusal
    → IsForFault (IsBadBody bytes wanted past at r) refusal
bad_name bytes wanted past at r (Fault bad) kept (inl f) =
    inr (inl (
      2,
      kept.defined,
      record {
        broken = λ keeps. f.0 (own_name bytes r (keeps.name refl));
        lower = λ other below. kept.rules other (λ two. absurd (omega (arith, two, below)));
      },
      f.1,
    ))
bad_name bytes wanted past at r (Fault bad) kept (inr f) = inr (inr (f.1, kept.defined, (λ rule. kept.rules rule (λ _. f.0)), f.2, f.3))
bad_name bytes wanted past at r NoMemory kept h = tt

-- ---- refusals

pub body_refused : (bytes : List ℕ) (unit : ℕ) (wanted : List Pair) (past : List Item) (at : ℕ) (r : OasRecord) (next : ℕ)
    (refusal : Refusal OasBad) → is_in_order (records_in past) r ≡ true → IsForFault (IsBadBody bytes wanted past at r) refusal
    → IsForFault (IsRefused bytes unit wanted past at r next) refusal
body_refused bytes unit wanted past at r next (Fault bad) order (inl f) =
    inr (inl (record { order = order; variable = f.0; undefined = f.1; bad_is = f.2 }))
body_refused bytes unit wanted past at r next (Fault bad) order (inr (inl f)) =
    inr (inr (inl (record { defined = record { order = order; defined = f.1 }; rule = f.0; broken = f.2; bad_is = f.3 })))
body_refused bytes unit wanted past at r next (Fault bad) order (inr (inr f)) =
    inr (inr (inr (inl (record {
      defined = record { order = order; defined = f.1 };
      rules = f.2;
      first = f.0;
      conflict = f.3;
      bad_is = f.4;
    }))))
body_refused bytes unit wanted past at r next NoMemory order h = tt

file_refused_by : (bytes : List ℕ) (unit : ℕ) (wanted : List Pair) (past : List Item) (at : ℕ) (r : OasRecord) (next : ℕ) (bad : OasBad)
    → is_in_order (records_in past) r ≡ true → IsBodyKept bytes wanted past r
    → BreaksUnit unit at r bad ⊎ BreaksTail bytes unit at next r bad → IsRefused bytes unit wanted past at r next bad
file_refused_by bytes unit wanted past at r next bad order kept (inl f) =
    inr (inr (inr (inr (inl (record {
      defined = record { order = order; defined = kept.defined };
      rules = kept.rules;
      names = kept.names;
      disagrees = f.0;
      bad_is = f.1;
    })))))
file_refused_by bytes unit wanted past at r next bad order kept (inr f) =
    inr (inr (inr (inr (inr (record {
      defined = record { order = order; defined = kept.defined };
      rules = kept.rules;
      names = kept.names;
      unit_agrees = f.0;
      ends = f.1;
      tail = f.2;
      bad_is = f.3;
    })))))

pub file_refused : (bytes : List ℕ) (unit : ℕ) (wanted : List Pair) (past : List Item) (at : ℕ) (r : OasRecord) (next : ℕ) (body : Body) (bad : OasBad)
    → body ≡ body_of r → is_in_order (records_in past) r ≡ true → IsBodyKept bytes wanted past r → BreaksFile bytes unit body at next bad
    → IsRefused bytes unit wanted past at r next bad
file_refused bytes unit wanted past at r next body bad is order kept breaks =
    file_refused_by bytes unit wanted past at r next bad order kept
    (file_broken bytes unit at next bad r (subst (λ b. BreaksFile bytes unit b at next bad) is breaks))

-- ---- a record that is taken

pub order_on : (past : List OasRecord) (r : OasRecord) (id : ℕ) → id ≡ id_of r → may_follow (ids_of past) id ≡ true → is_in_order past r ≡ true
order_on past r id is may = subst (λ i. may_follow (ids_of past) i ≡ true) is may

pub place_on : (past : List OasRecord) (r : OasRecord) (id : ℕ) (place : Place) → id ≡ id_of r → IsPlace (id ∷ ids_of past) place
    → IsPlace (ids_of (r ∷ past)) place
place_on past r id place is at = subst (λ i. IsPlace (i ∷ ids_of past) place) is at

pub taken_on : (wanted sorted : List Pair) (past : List OasRecord) (r : OasRecord) (outline : Outline) (fields : Fields) → AreSamePairs wanted sorted
    → outline.body ≡ body_of r → outline.repeats ≡ is_there (repetition_in r)
    → IsTrue outline.has_dimensions ↔ HasDimensionsIn (repetition_in r) → AreFields (r ∷ past) fields
    → HasDimensionsIn (repetition_of past) → IsTaken wanted sorted past r outline fields
taken_on wanted sorted past r outline fields same body repeats dimensions values last = record {
  same = same;
  looked_at = record { body = body; repeats = repeats; dimensions = dimensions };
  values = values;
  last_allowed = last;
}

pub body_allowed : (bytes : List ℕ) (unit : ℕ) (wanted : List Pair) (past : List Item) (at : ℕ) (r : OasRecord) (next : ℕ) (body : Body)
    → body ≡ body_of r → IsBodyKept bytes wanted past r → KeepsFile bytes unit body at next → IsItemAllowed bytes unit wanted past at r next
body_allowed bytes unit wanted past at r next body is kept keeps =
    let file : KeepsFile bytes unit (body_of r) at next = subst (λ b. KeepsFile bytes unit b at next) is keeps in
    record {
      defined = kept.defined;
      rules = kept.rules;
      names = kept.names;
      unit_agrees = unit_kept bytes unit at next r file;
      tail = tail_kept bytes unit at next r file;
    }

-- ---- a rectangle that writes no repetition

pub plain_taken : (wanted sorted : List Pair) (past : List OasRecord) (p : PlainRectangle) (fields : Fields) → AreSamePairs wanted sorted
    → AreFields (rectangle_of p ∷ past) fields → HasDimensionsIn (repetition_of past) → IsTaken wanted sorted past (rectangle_of p) plain fields
plain_taken wanted sorted past p fields same values last =
    taken_on wanted sorted past (rectangle_of p) plain fields same refl refl (λ _. tt, λ _. refl) values last

pub plain_allowed : (bytes : List ℕ) (unit : ℕ) (wanted : List Pair) (past : List Item) (at : ℕ) (p : PlainRectangle) (next : ℕ)
    → IsBodyKept bytes wanted past (rectangle_of p) → IsItemAllowed bytes unit wanted past at (rectangle_of p) next
plain_allowed bytes unit wanted past at p next kept = body_allowed bytes unit wanted past at (rectangle_of p) next bodies.Rectangle refl kept tt

-- ---- the table offsets

pub tables_on : (past : List OasRecord) (r : OasRecord) (body : Body) (old same new : Bool) → new ≡ tables_by body same → same ≡ old
    → old ≡ tables_at_end past → body ≡ body_of r → new ≡ tables_at_end (r ∷ past)
tables_on past r body old same new e s o b =
    e
    ∙ ap (λ x. tables_by x same) b
    ∙ ap (λ t. tables_by (body_of r) t) (s ∙ o)
    ∙ tables_is (tables_at_end past) r

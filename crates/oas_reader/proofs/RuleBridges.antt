-- What the program finds of a record is what the definitions say of it.
use Rattle.std.proofs.Common.{◌≡◌, ℕ, ◌^◌, Bool, false, if◌then◌else◌, Option, Some, None, List, ◌∷◌, ◌++◌, map, refl, sym, ap, subst, ◌∙◌, inl, inr, arith}
use Rattle.std.specs.Prelude.{◌↔◌, IsTrue}
use Rattle.std.specs.List.{list_any}
use Rattle.geo_stream.specs.Refusals.{IsForFault}
use Rattle.geo_stream.specs.declared.refusal.Refusal.{Refusal}
use Rattle.geo_stream.specs.declared.refusal.Refusal.TheVariants.{Fault, NoMemory}
use Rattle.layout_model.specs.declared.pair.Pair.{Pair}
use Rattle.oas_record.specs.Taken.{repetition_in}
use Rattle.oas_record.specs.declared.records.OasRecord.{OasRecord}
use Rattle.oas_record.specs.declared.repetition.Rep.{Rep}
use Rattle.oas_shapes.specs.Repetitions.{offsets_in, HasDimensionsIn}
use Rattle.oas_shapes.specs.Rules.{IsLowest}
use Rattle.oas_fields.specs.Values.{ArePlacesWithin, begins_cell, repetition_of}
use Rattle.oas_fields.specs.declared.fields.Fields.{Fields}
use Rattle.oas_reader.specs.Bodies.{body_of}
use Rattle.oas_reader.specs.Drawn.{repetition_kept, shapes_in, IsRefusedBy}
use Rattle.oas_reader.specs.Geometry.{wanting_in, rep_in, shapes_if, placings_in, KeepsGeometry, IsBadLook}
use Rattle.oas_reader.specs.Items.{Item, records_in}
use Rattle.oas_reader.specs.Kept.{fields_at, undefined_in, KeepsVersionBy, KeepsSchemeBy}
use Rattle.layout_model.specs.Pairs.{same_pair, AreSamePairs}
use Rattle.oas_reader.specs.Meaning.{repetition_at, pair_of, has_pair, shapes_at, placings_at, given_in_cell}
use Rattle.oas_reader.specs.Reading.{item}
use Rattle.oas_reader.specs.Readers.{begun_by, begun_of, placings_of, whole_cell, whole_of, AreDraftsOf}
use Rattle.oas_reader.specs.Rules.{ArePositionsNear, KeepsOasisRule}
use Rattle.oas_reader.specs.Taking.{IsTaken, KeepsOwnName, wanting_of, AreValuesKept, IsBadValue}
use Rattle.oas_reader.specs.Undefined.{is_there, undefined_of}
use Rattle.oas_reader.specs.declared.bodies.Body.{Body}
use Rattle.oas_reader.specs.declared.bodies.Outline.{Outline}
use Rattle.oas_reader.specs.declared.cells.Drafts.{Drafts}
use Rattle.oas_reader.specs.declared.refusing.OasBad.{OasBad}
use Rattle.oas_reader.proofs.DrawBridges.{fields_are, shapes_are}
use Rattle.oas_reader.proofs.FieldBridges.{undefined_is}
use Rattle.oas_reader.proofs.RecordRules.{has_pair_is, calls_none, placings_are, shapes_wanted, repetition_is}
use Rattle.oas_reader.proofs.RecordRules.{IsLookedAt, keeps_geometry, geometry_keeps, own_kept, positions_lowest}
use Rattle.oas_reader.proofs.RecordRules.{version_lowest, scheme_lowest}

-- ---- the program's words and the definitions'

wanting_is : (wanted sorted : List Pair) (past : List OasRecord) (r : OasRecord) (body : Body) (fields : Fields) → AreSamePairs wanted sorted
    → body ≡ body_of r → fields ≡ fields_at (r ∷ past) → wanting_in sorted body fields ≡ wanting_of wanted past r
wanting_is wanted sorted past r body fields same b f =
    ap (λ x. wanting_in sorted x fields) b ∙ ap (λ x. wanting_in sorted (body_of r) x) f
    ∙ ap (λ has. if has then Some (list_any (same_pair (pair_of (r ∷ past))) sorted) else None) (has_pair_is r)
    ∙ ap (λ is_in. if has_pair r then Some is_in else None) (sym (same (pair_of (r ∷ past))))

rep_is : (past : List OasRecord) (r : OasRecord) (outline : Outline) (fields : Fields) → outline.repeats ≡ is_there (repetition_in r)
    → fields ≡ fields_at (r ∷ past) → rep_in outline fields ≡ repetition_at past r
rep_is past r outline fields repeats f =
    ap (λ x. repetition_kept x fields.repetition) repeats ∙ ap (λ x. repetition_kept (is_there (repetition_in r)) x.repetition) f
    ∙ repetition_is (repetition_in r) (repetition_of (r ∷ past))

pub record IsBridge (wanted sorted : List Pair) (past : List OasRecord) (r : OasRecord) (outline : Outline) (fields : Fields) : Type 0 where
  pub body : outline.body ≡ body_of r
  pub wanting : wanting_in sorted outline.body fields ≡ wanting_of wanted past r
  pub fields_are : fields ≡ fields_at (r ∷ past)
  pub rep : rep_in outline fields ≡ repetition_at past r
  pub undefined : undefined_in outline.body outline.repeats fields ≡ undefined_of past r
  pub dims : IsTrue outline.has_dimensions ↔ HasDimensionsIn (repetition_in r)
  pub before : HasDimensionsIn (repetition_of past)

bridge : (wanted sorted : List Pair) (past : List OasRecord) (r : OasRecord) (outline : Outline) (fields : Fields)
    → IsTaken wanted sorted past r outline fields → IsBridge wanted sorted past r outline fields
bridge wanted sorted past r outline fields t =
    let same : fields ≡ fields_at (r ∷ past) = fields_are (r ∷ past) fields t.values in
    record {
      body = t.looked_at.body;
      wanting = wanting_is wanted sorted past r outline.body fields t.same t.looked_at.body same;
      fields_are = same;
      rep = rep_is past r outline fields t.looked_at.repeats same;
      undefined =
          ap (λ x. undefined_in x outline.repeats fields) t.looked_at.body ∙ ap (λ x. undefined_in (body_of r) x fields) t.looked_at.repeats
          ∙ undefined_is past r fields t.values;
      dims = t.looked_at.dimensions;
      before = t.last_allowed;
    }

carried : (bytes : List ℕ) (b c : Body) (dims : Bool) (v w : Option Bool) (f g : Fields) (p q : Option Rep) (rule : ℕ) → b ≡ c → v ≡ w → f ≡ g
    → p ≡ q → KeepsGeometry bytes b dims v f p rule → KeepsGeometry bytes c dims w g q rule
carried bytes b c dims v w f g p q rule be ve fe pe k =
    subst (λ x. KeepsGeometry bytes x dims w g q rule) be
    (subst (λ x. KeepsGeometry bytes b dims x g q rule) ve
    (subst (λ x. KeepsGeometry bytes b dims v x q rule) fe (subst (λ x. KeepsGeometry bytes b dims v f x rule) pe k)))

near_to : (all : List OasRecord) (fields : Fields) → fields ≡ fields_at all → ArePlacesWithin (2 ^ 40) fields → ArePositionsNear all
near_to all fields e n =
    let at : ArePlacesWithin (2 ^ 40) (fields_at all) = subst (ArePlacesWithin (2 ^ 40)) e n in
    record { placement = at.placement; geometry = at.geometry; text = at.text }

near_from : (all : List OasRecord) (fields : Fields) → fields ≡ fields_at all → ArePositionsNear all → ArePlacesWithin (2 ^ 40) fields
near_from all fields e n =
    let at : ArePlacesWithin (2 ^ 40) (fields_at all) = record { placement = n.placement; geometry = n.geometry; text = n.text } in
    subst (ArePlacesWithin (2 ^ 40)) (sym e) at

-- ---- values

-- what is known once a record has been looked at
pub record IsLooked (bytes : List ℕ) (sorted : List Pair) (outline : Outline) (fields : Fields) (wanting : Option Bool) : Type 0 where
  pub near : ArePlacesWithin (2 ^ 40) fields
  pub defined : undefined_in outline.body outline.repeats fields ≡ None
  pub version : KeepsVersionBy bytes outline.body
  pub scheme : KeepsSchemeBy outline.body
  pub wanting_is : wanting ≡ wanting_in sorted outline.body fields

looked_at : (bytes : List ℕ) (wanted sorted : List Pair) (past : List OasRecord) (r : OasRecord) (outline : Outline) (fields : Fields)
    (wanting : Option Bool) (rule : ℕ) → IsBridge wanted sorted past r outline fields → IsLooked bytes sorted outline fields wanting
    → (rule ≡ 2 → KeepsOwnName bytes r) → IsLookedAt bytes past r outline.has_dimensions rule
looked_at bytes wanted sorted past r outline fields wanting rule b l own = record {
  positions = λ e. near_to (r ∷ past) fields b.fields_are l.near;
  version = subst (KeepsVersionBy bytes) b.body l.version;
  scheme = subst KeepsSchemeBy b.body l.scheme;
  dimensions = b.dims;
  defined = sym b.undefined ∙ l.defined;
  own = own;
}

-- the rules of its geometry by the definitions' words
geometry_to : (bytes : List ℕ) (wanted sorted : List Pair) (past : List OasRecord) (r : OasRecord) (outline : Outline) (fields : Fields)
    (wanting : Option Bool) (rule : ℕ) → IsBridge wanted sorted past r outline fields → IsLooked bytes sorted outline fields wanting
    → KeepsGeometry bytes outline.body outline.has_dimensions wanting fields (rep_in outline fields) rule
    → KeepsGeometry bytes (body_of r) outline.has_dimensions (wanting_of wanted past r) (fields_at (r ∷ past)) (repetition_at past r) rule
geometry_to bytes wanted sorted past r outline fields wanting rule b l k =
    carried bytes outline.body (body_of r) outline.has_dimensions wanting (wanting_of wanted past r) fields (fields_at (r ∷ past)) (rep_in outline fields)
    (repetition_at past r) rule b.body (l.wanting_is ∙ b.wanting) b.fields_are b.rep k

geometry_from : (bytes : List ℕ) (wanted sorted : List Pair) (past : List OasRecord) (r : OasRecord) (outline : Outline) (fields : Fields)
    (wanting : Option Bool) (rule : ℕ) → IsBridge wanted sorted past r outline fields → IsLooked bytes sorted outline fields wanting
    → KeepsGeometry bytes (body_of r) outline.has_dimensions (wanting_of wanted past r) (fields_at (r ∷ past)) (repetition_at past r) rule
    → KeepsGeometry bytes outline.body outline.has_dimensions wanting fields (rep_in outline fields) rule
geometry_from bytes wanted sorted past r outline fields wanting rule b l k =
    carried bytes (body_of r) outline.body outline.has_dimensions (wanting_of wanted past r) wanting (fields_at (r ∷ past)) fields (repetition_at past r)
    (rep_in outline fields) rule (sym b.body) (sym (l.wanting_is ∙ b.wanting)) (sym b.fields_are) (sym b.rep) k

pub values_kept : (bytes : List ℕ) (wanted sorted : List Pair) (past : List OasRecord) (r : OasRecord) (outline : Outline) (fields : Fields)
    (wanting : Option Bool) → IsTaken wanted sorted past r outline fields → IsLooked bytes sorted outline fields wanting
    → ((rule : ℕ) → KeepsGeometry bytes outline.body outline.has_dimensions wanting fields (rep_in outline fields) rule)
    → AreValuesKept bytes wanted past r
values_kept bytes wanted sorted past r outline fields wanting t l k =
    let b = bridge wanted sorted past r outline fields t in
    record {
      defined = sym b.undefined ∙ l.defined;
      rules = λ rule own.
          keeps_geometry bytes wanted past r outline.has_dimensions rule
          (looked_at bytes wanted sorted past r outline fields wanting rule b l own)
          (λ e. geometry_to bytes wanted sorted past r outline fields wanting 7 b l (k 7))
          (geometry_to bytes wanted sorted past r outline fields wanting rule b l (k rule));
    }

-- ---- refusals

pub look_bad : (bytes : List ℕ) (wanted sorted : List Pair) (past : List OasRecord) (r : OasRecord) (outline : Outline) (fields : Fields) (at : ℕ)
    (bad : OasBad) → IsTaken wanted sorted past r outline fields → IsBadLook bytes outline fields at bad → IsBadValue bytes wanted past at r bad
look_bad bytes wanted sorted past r outline fields at bad t (inl (variable, wanting, told)) =
    let b = bridge wanted sorted past r outline fields t in inl (variable, sym b.undefined ∙ wanting, told)
look_bad bytes wanted sorted past r outline fields at bad t (inr (inl (defined, far, told))) =
    let b = bridge wanted sorted past r outline fields t in
    inr (1, sym b.undefined ∙ defined, positions_lowest bytes wanted past r (λ n. far (near_from (r ∷ past) fields b.fields_are n)), told)
look_bad bytes wanted sorted past r outline fields at bad t (inr (inr (inl (defined, near, wrong, told)))) =
    let b = bridge wanted sorted past r outline fields t in
    inr (
      9,
      sym b.undefined ∙ defined,
      version_lowest bytes wanted past r (λ k. wrong (subst (KeepsVersionBy bytes) (sym b.body) k)) (near_to (r ∷ past) fields b.fields_are near),
      told,
    )
look_bad bytes wanted sorted past r outline fields at bad t (inr (inr (inr (defined, near, wrong, told)))) =
    let b = bridge wanted sorted past r outline fields t in
    inr (
      10,
      sym b.undefined ∙ defined,
      scheme_lowest bytes wanted past r (λ k. wrong (subst KeepsSchemeBy (sym b.body) k)) (near_to (r ∷ past) fields b.fields_are near),
      told,
    )

lowest_of : (bytes : List ℕ) (wanted sorted : List Pair) (past : List OasRecord) (r : OasRecord) (outline : Outline) (fields : Fields)
    (wanting : Option Bool) (rule : ℕ) → IsBridge wanted sorted past r outline fields → IsLooked bytes sorted outline fields wanting
    → IsLowest (KeepsGeometry bytes outline.body outline.has_dimensions wanting fields (rep_in outline fields)) rule
    → IsLowest (KeepsOasisRule bytes wanted past r) rule
lowest_of bytes wanted sorted past r outline fields wanting rule b l low =
    let broken : KeepsGeometry bytes (body_of r) outline.has_dimensions (wanting_of wanted past r) (fields_at (r ∷ past)) (repetition_at past r) rule → ⊥ =
    λ k. low.broken (geometry_from bytes wanted sorted past r outline fields wanting rule b l k) in
    record {
      broken = λ k. broken (geometry_keeps bytes wanted past r outline.has_dimensions rule b.dims b.before k);
      lower = λ other less.
          keeps_geometry bytes wanted past r outline.has_dimensions other
          (looked_at bytes wanted sorted past r outline fields wanting other b l (λ e. own_kept bytes wanted past r outline.has_dimensions rule b.dims broken))
          (λ e. geometry_to bytes wanted sorted past r outline fields wanting 7 b l (low.lower 7 (omega arith)))
          (geometry_to bytes wanted sorted past r outline fields wanting other b l (low.lower other less));
    }

pub geometry_bad : (bytes : List ℕ) (wanted sorted : List Pair) (past : List OasRecord) (r : OasRecord) (outline : Outline) (fields : Fields)
    (wanting : Option Bool) (at : ℕ) (refusal : Refusal OasBad) → IsTaken wanted sorted past r outline fields
    → IsLooked bytes sorted outline fields wanting
    → IsForFault (IsRefusedBy (KeepsGeometry bytes outline.body outline.has_dimensions wanting fields (rep_in outline fields)) at) refusal
    → IsForFault (IsBadValue bytes wanted past at r) refusal
geometry_bad bytes wanted sorted past r outline fields wanting at NoMemory t l h = tt
geometry_bad bytes wanted sorted past r outline fields wanting at (Fault bad) t l (rule, told, low) =
    let b = bridge wanted sorted past r outline fields t in
    inr (rule, sym b.undefined ∙ l.defined, lowest_of bytes wanted sorted past r outline fields wanting rule b l low, told)

-- ---- the open cell

-- what the open cell has once a record's geometry is added
pub record IsAdded (outline : Outline) (fields : Fields) (wanting : Option Bool) (old new : Drafts) : Type 0 where
  pub placings : placings_of new.placings.items ≡ placings_of old.placings.items ++ placings_in outline.body fields (rep_in outline fields)
  pub shapes : new.shapes ≡ old.shapes ++ shapes_if wanting (shapes_in outline.body fields (rep_in outline fields))
  pub begun : new.begun ≡ old.begun
  pub whole : new.whole ≡ old.whole

shapes_told : (wanted sorted : List Pair) (past : List OasRecord) (r : OasRecord) (outline : Outline) (fields : Fields) (wanting : Option Bool)
    → IsBridge wanted sorted past r outline fields → wanting ≡ wanting_in sorted outline.body fields
    → shapes_if wanting (shapes_in outline.body fields (rep_in outline fields)) ≡ shapes_at wanted past r
shapes_told wanted sorted past r outline fields wanting b e =
    ap (λ x. shapes_if x (shapes_in outline.body fields (rep_in outline fields))) (e ∙ b.wanting)
    ∙ ap (λ x. shapes_if (wanting_of wanted past r) (shapes_in x fields (rep_in outline fields))) b.body
    ∙ ap (λ x. shapes_if (wanting_of wanted past r) (shapes_in (body_of r) fields x)) b.rep
    ∙ ap (λ x. shapes_if (wanting_of wanted past r) (shapes_in (body_of r) x (repetition_at past r))) b.fields_are
    ∙ ap (λ x. shapes_if (wanting_of wanted past r) x) (shapes_are r (r ∷ past) (repetition_at past r))
    ∙ shapes_wanted wanted past r (offsets_in (repetition_at past r))

placings_told : (wanted sorted : List Pair) (past : List OasRecord) (r : OasRecord) (outline : Outline) (fields : Fields)
    → IsBridge wanted sorted past r outline fields → placings_in outline.body fields (rep_in outline fields) ≡ placings_at past r
placings_told wanted sorted past r outline fields b =
    ap (λ x. placings_in x fields (rep_in outline fields)) b.body ∙ ap (λ x. placings_in (body_of r) fields x) b.rep
    ∙ ap (λ x. placings_in (body_of r) x (repetition_at past r)) b.fields_are ∙ placings_are past r

added_in_cell : {A : Type 0} (f : List OasRecord → OasRecord → List A) (past : List OasRecord) (r : OasRecord) → begins_cell r ≡ false
    → given_in_cell f past ++ f past r ≡ given_in_cell f (r ∷ past)
added_in_cell f past r e = rw e refl

begun_still : (past : List Item) (at : ℕ) (r : OasRecord) → begins_cell r ≡ false → begun_of past ≡ begun_of (item at r ∷ past)
begun_still past at r e = ap (λ c. begun_by (item at r) c (begun_of past)) (sym (calls_none r e))

whole_still : (wanted : List Pair) (past : List Item) (at : ℕ) (r : OasRecord) → begins_cell r ≡ false
    → whole_of wanted past ≡ whole_of wanted (item at r ∷ past)
whole_still wanted past at r e = rw e refl

pub drafts_added : (wanted sorted : List Pair) (past : List Item) (at : ℕ) (r : OasRecord) (outline : Outline) (fields : Fields) (wanting : Option Bool)
    (old new : Drafts) → IsTaken wanted sorted (records_in past) r outline fields → wanting ≡ wanting_in sorted outline.body fields
    → begins_cell r ≡ false → AreDraftsOf wanted past old → IsAdded outline fields wanting old new → AreDraftsOf wanted (item at r ∷ past) new
drafts_added wanted sorted past at r outline fields wanting old new t e none before added =
    let b = bridge wanted sorted (records_in past) r outline fields t in
    record {
      begun = added.begun ∙ before.begun ∙ begun_still past at r none;
      shapes =
          added.shapes ∙ ap (λ x. x ++ shapes_if wanting (shapes_in outline.body fields (rep_in outline fields))) before.shapes
          ∙ ap (λ x. given_in_cell (shapes_at wanted) (records_in past) ++ x) (shapes_told wanted sorted (records_in past) r outline fields wanting b e)
          ∙ added_in_cell (shapes_at wanted) (records_in past) r none;
      placings =
          added.placings ∙ ap (λ x. x ++ placings_in outline.body fields (rep_in outline fields)) before.placings
          ∙ ap (λ x. given_in_cell placings_at (records_in past) ++ x) (placings_told wanted sorted (records_in past) r outline fields b)
          ∙ added_in_cell placings_at (records_in past) r none;
      whole = ap (λ x. map whole_cell x.items) added.whole ∙ before.whole ∙ whole_still wanted past at r none;
    }

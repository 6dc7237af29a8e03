-- What taking a record into the open structure does.
use Rattle.std.proofs.Common.{◌≡◌, ℕ, Bool, true, false, cond, List, [], ◌∷◌, ◌++◌, Option, Some, None, Result, Ok, Err}
use Rattle.std.proofs.Common.{refl, sym, ap, subst, ◌∙◌, ◌⊎◌, inl, inr}
use Rattle.std.specs.Prelude.{All, OnOk, IfSome, IsSome, ◌≢◌}
use Rattle.geo_stream.specs.Refusals.{IfFault}
use Rattle.geo_stream.specs.declared.refusal.Refusal.{Refusal}
use Rattle.geo_stream.specs.declared.refusal.Refusal.TheVariants.{Fault, NoMemory}
use Rattle.layout_model.specs.Layouts.{IsShapeOnGrid, IsPlacementOnGrid}
use Rattle.layout_model.specs.Names.{IsName}
use Rattle.layout_model.specs.declared.pair.Pair.{Pair}
use Rattle.gds_record.specs.declared.kinds.Kind.{Kind}
use Rattle.gds_record.specs.Reals.{AgreesWithUnit}
use Rattle.gds_record.specs.declared.kinds.Kind.TheVariants.{EndStr, StrName, Units, Xy}
use Rattle.gds_record.specs.declared.records.Record.{Record}
use Rattle.gds_reader.specs.declared.elements.Element.{Element}
use Rattle.gds_reader.specs.declared.order.Place.{Place}
use Rattle.gds_reader.specs.declared.reading.Structure.{Structure}
use Rattle.gds_reader.specs.declared.refusing.GdsBad.{GdsBad}
use Rattle.gds_reader.specs.Past.{same_kind, structure_record, given_in_structure}
use Rattle.gds_reader.specs.Values.{name_in, points_in, KeepsGdsiiRule, KeepsGdsiiRules}
use Rattle.gds_reader.specs.Meaning.{wanted_at, shapes_at, placements_at}
use Rattle.gds_reader.specs.Elements.{IsHeld, IsElementOf, shapes_by, KeepsBy, placements_kept}
use Rattle.gds_reader.specs.Readers.{IsStructureOf, next_after, place_behind, IsRefused, IsBadXy}
use Rattle.gds_reader.specs.Names.{place_of as place_of_name}
use Rattle.gds_reader.specs.Reading.{unit_in}
use Rattle.gds_reader.specs.Refused.{IsRefusedBy}
use Rattle.gds_reader.specs.Steps.{next_place}
use Rattle.gds_reader.proofs.BridgeLemmas.{shapes_of_xy, placements_of_xy, keeps_of_xy, lowest_of_xy}
use Rattle.gds_reader.proofs.KindLemmas.{same_kind_is, same_kind_refl}

pub taken_structure : {T : Type 0} (bytes : List ℕ) (wanted : List Pair) (past : List Record) (r : Record) (e : Element) (drawn : Option Bool)
    (result : Result T (Refusal GdsBad)) (old new : Structure) → r.kind ≡ Xy → IsElementOf bytes past e → drawn ≡ wanted_at bytes wanted past r
    → IsStructureOf bytes wanted past old → new.named ≡ old.named
    → OnOk result (new.shapes ≡ old.shapes ++ shapes_by drawn e (points_in bytes r))
    → OnOk result (new.placements ≡ old.placements ++ placements_kept e.kind bytes e (points_in bytes r))
    → (All IsShapeOnGrid old.shapes → OnOk result (All IsShapeOnGrid new.shapes))
    → (All IsPlacementOnGrid old.placements → OnOk result (All IsPlacementOnGrid new.placements))
    → OnOk result (IsStructureOf bytes wanted (r ∷ past) new)
taken_structure bytes wanted past r e drawn (Err bad) old new kind f d s named shapes placements shapes_grid placements_grid = tt
taken_structure bytes wanted past r e drawn (Ok x) old new kind f d s named shapes placements shapes_grid placements_grid = record {
  named =
      named ∙ s.named
      ∙ sym (ap (λ k. cond (same_kind k EndStr) None (cond (same_kind k StrName) (Some r) (structure_record StrName past))) kind);
  held = subst (λ n. IfSome n (IsHeld bytes)) (sym named) s.held;
  valid = subst (λ n. IfSome n (λ x. IsName (name_in bytes x))) (sym named) s.valid;
  shapes =
      shapes ∙ ap (λ xs. xs ++ shapes_by drawn e (points_in bytes r)) s.shapes
      ∙ ap (λ xs. given_in_structure (shapes_at bytes wanted) past ++ xs) (shapes_of_xy bytes wanted past r e drawn kind f d)
      ∙ sym (ap (λ k. cond (same_kind k EndStr) [] (given_in_structure (shapes_at bytes wanted) past ++ shapes_at bytes wanted past r)) kind);
  placements =
      placements ∙ ap (λ xs. xs ++ placements_kept e.kind bytes e (points_in bytes r)) s.placements
      ∙ ap (λ xs. given_in_structure (placements_at bytes) past ++ xs) (placements_of_xy bytes past r e kind f)
      ∙ sym (ap (λ k. cond (same_kind k EndStr) [] (given_in_structure (placements_at bytes) past ++ placements_at bytes past r)) kind);
  shapes_grid = shapes_grid s.shapes_grid;
  placements_grid = placements_grid s.placements_grid;
}

pub taken_keeps : {T : Type 0} (bytes : List ℕ) (wanted : List Pair) (past : List Record) (r : Record) (e : Element) (drawn : Option Bool)
    (result : Result T (Refusal GdsBad)) → r.kind ≡ Xy → IsElementOf bytes past e → drawn ≡ wanted_at bytes wanted past r
    → OnOk result ((rule : ℕ) → KeepsBy drawn e (points_in bytes r) rule) → OnOk result (r.kind ≡ Xy → KeepsGdsiiRules bytes wanted past r)
taken_keeps bytes wanted past r e drawn (Err bad) kind f d kept = tt
taken_keeps bytes wanted past r e drawn (Ok x) kind f d kept = λ again rule. keeps_of_xy bytes wanted past r e drawn rule kind f d (kept rule)

pub taken_refused : {T : Type 0} (bytes : List ℕ) (wanted : List Pair) (past : List Record) (r : Record) (e : Element) (drawn : Option Bool)
    (result : Result T (Refusal GdsBad)) (at : ℕ) → r.kind ≡ Xy → IsElementOf bytes past e → drawn ≡ wanted_at bytes wanted past r
    → IfFault result (IsRefusedBy (KeepsBy drawn e (points_in bytes r)) at) → IfFault result (IsRefusedBy (KeepsGdsiiRule bytes wanted past r) at)
taken_refused bytes wanted past r e drawn (Ok x) at kind f d refused = tt
taken_refused bytes wanted past r e drawn (Err (Fault bad)) at kind f d (rule, is, low) =
    (rule, is, lowest_of_xy bytes wanted past r e drawn rule kind f d low)
taken_refused bytes wanted past r e drawn (Err NoMemory) at kind f d refused = tt

-- the record may follow
pub some_next : (behind : Option Place) (place following : Place) (r : Record) → behind ≡ Some place → next_place place r.kind ≡ Some following
    → IsSome (next_after behind r)
some_next behind place following r e f =
    subst (λ p. IsSome (next_after p r)) (sym e) (subst (λ n. IsSome n) (sym f) refl)

pub kind_cases : (a b : Kind) → (a ≡ b) ⊎ (a ≢ b)
kind_cases a b =
    elim (same_kind a b) as (λ v. same_kind a b ≡ v → (a ≡ b) ⊎ (a ≢ b)) [
      | true ↦ λ e. inl (same_kind_is a b e)
      | false ↦ λ e. inr (λ same. absurd (let yes : same_kind a b ≡ true = subst (λ k. same_kind a k ≡ true) same (same_kind_refl a) in cc))
    ] refl

pub next_is : (behind : Option Place) (place following : Place) (r : Record) → behind ≡ Some place → next_place place r.kind ≡ Some following
    → next_after behind r ≡ Some following
next_is behind place following r e f = ap (λ p. next_after p r) e ∙ f

-- what may still be refused of a record whose kind, values, unit and name were looked at is an XY for its points
pub refused_xy : (bytes : List ℕ) (unit : ℕ) (wanted : List Pair) (past : List Record) (r : Record) (at : ℕ) → IsSome (next_after (place_behind past) r)
    → (r.kind ≢ Xy → KeepsGdsiiRules bytes wanted past r) → (r.kind ≡ Units → AgreesWithUnit (unit_in bytes r) unit)
    → (r.kind ≡ StrName → place_of_name bytes (name_in bytes r) past ≡ None)
    → (bad : GdsBad) → IsRefused bytes unit wanted past r at bad → IsBadXy past r
refused_xy bytes unit wanted past r at some rules agrees new bad (inl order) =
    absurd (let none : IsSome {T = Place} None = subst (λ n. IsSome n) order.none some in cc)
refused_xy bytes unit wanted past r at some rules agrees new bad (inr (inl rule)) = elim (kind_cases r.kind Xy) [
  | inl xy ↦ (xy, some)
  | inr other ↦ absurd (rule.broken.broken (rules other rule.rule))
]
refused_xy bytes unit wanted past r at some rules agrees new bad (inr (inr (inl other))) = absurd (other.disagrees (agrees other.kind))
refused_xy bytes unit wanted past r at some rules agrees new bad (inr (inr (inr name))) =
    absurd (let same : None ≡ Some name.first = sym (new name.kind) ∙ name.found in cc)

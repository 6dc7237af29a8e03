-- A rectangle that writes no repetition.
use Rattle.std.proofs.Common.{◌≡◌, ℕ, ◌^◌, Bool, true, false, Some, None, List, ◌++◌, refl, sym, ap, ◌∙◌}
use Rattle.geo_stream.specs.Refusals.{IsForFault}
use Rattle.geo_stream.specs.declared.refusal.Refusal.{Refusal}
use Rattle.geo_stream.specs.declared.refusal.Refusal.TheVariants.{Fault, NoMemory}
use Rattle.layout_model.specs.declared.pair.Pair.{Pair}
use Rattle.oas_fields.specs.Values.{ArePlacesWithin}
use Rattle.oas_fields.specs.declared.fields.Fields.{Fields}
use Rattle.oas_shapes.specs.declared.figures.Figure.TheVariants as figures
use Rattle.oas_reader.specs.Drawn.{figure_in, KeepsDrawnIn, IsRefusedBy}
use Rattle.oas_reader.specs.Geometry.{wanting_in, placings_in, KeepsShapes}
use Rattle.oas_reader.specs.Kept.{undefined_in}
use Rattle.oas_reader.specs.Meaning.{or_none}
use Rattle.oas_reader.specs.Plain.{plain}
use Rattle.oas_reader.specs.Readers.{placings_of}
use Rattle.oas_reader.specs.declared.bodies.Body.TheVariants as bodies
use Rattle.oas_reader.specs.declared.cells.Drafts.{Drafts}
use Rattle.oas_reader.specs.declared.refusing.OasBad.{OasBad}
use Rattle.oas_reader.proofs.GeometryLemmas.{placings_still}
use Rattle.oas_reader.proofs.RuleBridges.{IsLooked}

pub plain_figure : (fields : Fields) (width height : ℕ) → width ≡ or_none fields.width → height ≡ or_none fields.height
    → figure_in bodies.Rectangle fields ≡ Some (figures.Rectangle width height)
plain_figure fields width height w h =
    ap (λ n. Some (figures.Rectangle n (or_none fields.height))) (sym w) ∙ ap (λ n. Some (figures.Rectangle width n)) (sym h)

pub plain_looked : (bytes : List ℕ) (sorted : List Pair) (fields : Fields) (is_wanted : Bool) → ArePlacesWithin (2 ^ 40) fields
    → undefined_in bodies.Rectangle false fields ≡ None → Some is_wanted ≡ wanting_in sorted bodies.Rectangle fields
    → IsLooked bytes sorted plain fields (Some is_wanted)
plain_looked bytes sorted fields is_wanted near defined wanting =
    record { near = near; defined = defined; version = tt; scheme = tt; wanting_is = wanting }

pub plain_unplaced : (fields : Fields) (old new : Drafts) → new.placings ≡ old.placings
    → placings_of new.placings.items ≡ placings_of old.placings.items ++ placings_in bodies.Rectangle fields None
plain_unplaced fields old new e = placings_still bodies.Rectangle fields None old new (λ called flips turning same. absurd (cc)) e

-- a rectangle on a wanted pair that is refused
pub plain_refused : (fields : Fields) (is_wanted : Bool) (at : ℕ) (refusal : Refusal OasBad) → is_wanted ≡ true
    → IsForFault (IsRefusedBy (KeepsDrawnIn bodies.Rectangle fields None) at) refusal
    → IsForFault (IsRefusedBy (KeepsShapes bodies.Rectangle true (Some is_wanted) fields None) at) refusal
plain_refused fields is_wanted at NoMemory is h = tt
plain_refused fields is_wanted at (Fault bad) is (rule, told, low) = (
  rule,
  told,
  record {
    broken = λ kept. low.broken (kept.drawn (ap Some is));
    lower = λ other less. record { drawn = λ _. low.lower other less; dimension = λ _ _. refl };
  },
)

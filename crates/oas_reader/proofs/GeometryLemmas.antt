-- What a record adds to the open cell.
use Rattle.std.proofs.Common.{◌≡◌, ℕ, Bool, Option, List, [], ◌∷◌, ◌++◌, Result, Ok, Err, refl, sym, ap, subst, ◌∙◌}
use Rattle.std.specs.Prelude.{All, IfErr}
use Rattle.std.proofs.lemmas.List.{append-nil}
use Rattle.std.proofs.lemmas.List.Elements.{All-nil, All-cons, All-append}
use Rattle.geo_stream.specs.Refusals.{IsForFault}
use Rattle.geo_stream.specs.declared.refusal.Refusal.{Refusal}
use Rattle.geo_stream.specs.declared.refusal.Refusal.TheVariants.{Fault, NoMemory}
use Rattle.layout_model.specs.Layouts.{IsShapeOnGrid}
use Rattle.oas_record.specs.declared.fields.Called.{Called}
use Rattle.oas_record.specs.declared.repetition.Rep.{Rep}
use Rattle.oas_fields.specs.declared.fields.Fields.{Fields}
use Rattle.oas_reader.specs.Geometry.{placings_in, KeepsShapes, KeepsGeometry}
use Rattle.oas_reader.specs.Drawn.{IsRefusedBy}
use Rattle.oas_reader.specs.Meaning.{Placing as APlacing}
use Rattle.oas_reader.specs.Naming.{IsCalledWithin, AreCalledWithin}
use Rattle.oas_reader.specs.Readers.{placing_of, placings_of, IsPlacingOnGrid, IsBegunWithin, IsDraftWithin, IsDraftOnGrid, AreDraftsWithin}
use Rattle.oas_reader.specs.declared.bodies.Body.{Body}
use Rattle.oas_reader.specs.declared.bodies.Body.TheVariants as bodies
use Rattle.oas_reader.specs.declared.bodies.Turning.{Turning}
use Rattle.oas_reader.specs.declared.cells.Drafts.{Drafts}
use Rattle.oas_reader.specs.declared.placing.Placing.{Placing}
use Rattle.oas_reader.specs.declared.refusing.OasBad.{OasBad}

-- ---- placements

target_within : (bytes : List ℕ) (p : Placing) (q : APlacing) → placing_of p ≡ q → AreCalledWithin bytes q.target → IsCalledWithin bytes p.target
target_within bytes p q e h = subst (λ t. AreCalledWithin bytes t) (sym (ap (λ x. x.target) e)) h

pub placed_within : (bytes : List ℕ) (p : Placing) (q : APlacing) (old new : Drafts) → placing_of p ≡ q → AreCalledWithin bytes q.target
    → IsPlacingOnGrid p → new.placings.items ≡ old.placings.items ++ p ∷ [] → new.shapes ≡ old.shapes → new.begun ≡ old.begun → new.whole ≡ old.whole
    → AreDraftsWithin bytes old → AreDraftsWithin bytes new
placed_within bytes p q old new e h grid placings shapes begun whole before =
    record {
      begun = subst (IsBegunWithin bytes) (sym begun) before.begun;
      placings =
          subst (All (λ placing. IsCalledWithin bytes placing.target)) (sym placings)
          (All-append (λ placing. IsCalledWithin bytes placing.target) old.placings.items (p ∷ []) before.placings
          (All-cons (λ placing. IsCalledWithin bytes placing.target) p [] (target_within bytes p q e h)
          (All-nil (λ placing. IsCalledWithin bytes placing.target))));
      whole = subst (λ w. All (IsDraftWithin bytes) w.items) (sym whole) before.whole;
      shapes_grid = subst (All IsShapeOnGrid) (sym shapes) before.shapes_grid;
      placings_grid =
          subst (All IsPlacingOnGrid) (sym placings)
          (All-append IsPlacingOnGrid old.placings.items (p ∷ []) before.placings_grid (All-cons IsPlacingOnGrid p [] grid (All-nil IsPlacingOnGrid)));
      whole_grid = subst (λ w. All IsDraftOnGrid w.items) (sym whole) before.whole_grid;
    }

-- ---- bodies without a placement

abbrev pub IsUnplaced : Body → Type 0
IsUnplaced body = (called : Option Called) (flips : Bool) (turning : Turning) → body ≡ bodies.Placement called flips turning → ⊥

pub no_placings : (body : Body) (fields : Fields) (rep : Option Rep) → IsUnplaced body → placings_in body fields rep ≡ []
no_placings (bodies.Placement called flips turning) fields rep other = absurd (other called flips turning refl)
no_placings body fields rep other = refl

pub shapes_keep : (bytes : List ℕ) (body : Body) (dims : Bool) (wanting : Option Bool) (fields : Fields) (rep : Option Rep) (rule : ℕ)
    → IsUnplaced body → KeepsShapes body dims wanting fields rep rule → KeepsGeometry bytes body dims wanting fields rep rule
shapes_keep bytes (bodies.Placement called flips turning) dims wanting fields rep rule other k = absurd (other called flips turning refl)
shapes_keep bytes body dims wanting fields rep rule other k = k

shapes_kept : (bytes : List ℕ) (body : Body) (dims : Bool) (wanting : Option Bool) (fields : Fields) (rep : Option Rep) (rule : ℕ)
    → IsUnplaced body → KeepsGeometry bytes body dims wanting fields rep rule → KeepsShapes body dims wanting fields rep rule
shapes_kept bytes (bodies.Placement called flips turning) dims wanting fields rep rule other k = absurd (other called flips turning refl)
shapes_kept bytes body dims wanting fields rep rule other k = k

pub shapes_refused : (bytes : List ℕ) (body : Body) (dims : Bool) (wanting : Option Bool) (fields : Fields) (rep : Option Rep) (at : ℕ)
    (refusal : Refusal OasBad) → IsUnplaced body → IsForFault (IsRefusedBy (KeepsShapes body dims wanting fields rep) at) refusal
    → IsForFault (IsRefusedBy (KeepsGeometry bytes body dims wanting fields rep) at) refusal
shapes_refused bytes body dims wanting fields rep at NoMemory other h = tt
shapes_refused bytes body dims wanting fields rep at (Fault bad) other (rule, told, low) = (
  rule,
  told,
  record {
    broken = λ k. low.broken (shapes_kept bytes body dims wanting fields rep rule other k);
    lower = λ less below. shapes_keep bytes body dims wanting fields rep less other (low.lower less below);
  },
)

pub placings_still : (body : Body) (fields : Fields) (rep : Option Rep) (old new : Drafts) → IsUnplaced body → new.placings ≡ old.placings
    → placings_of new.placings.items ≡ placings_of old.placings.items ++ placings_in body fields rep
placings_still body fields rep old new other e =
    ap (λ p. placings_of p.items) e ∙ sym (append-nil (placings_of old.placings.items))
    ∙ ap (λ x. placings_of old.placings.items ++ x) (sym (no_placings body fields rep other))

pub err_weaker : {A E : Type 0} {P Q : E → Type 0} (r : Result A E) → ((e : E) → P e → Q e) → IfErr r P → IfErr r Q
err_weaker (Ok a) f h = h
err_weaker (Err e) f h = f e h

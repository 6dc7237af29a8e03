-- Records on wanted pairs, and why they are refused.
use Rattle.std.proofs.Common.{◌≡◌, ℕ, Option, refl, sym, ◌∙◌}
use Rattle.std.specs.Prelude.{◌≢◌}
use Rattle.geo_stream.specs.Refusals.{IsForFault}
use Rattle.geo_stream.specs.declared.refusal.Refusal.{Refusal}
use Rattle.geo_stream.specs.declared.refusal.Refusal.TheVariants.{Fault, NoMemory}
use Rattle.oas_record.specs.declared.repetition.Rep.{Rep}
use Rattle.oas_shapes.specs.Rules.{IsLowest}
use Rattle.oas_shapes.specs.declared.drawing.Undrawn.{Undrawn}
use Rattle.oas_shapes.specs.declared.drawing.Undrawn.TheVariants as undrawns
use Rattle.oas_fields.specs.declared.fields.Fields.{Fields}
use Rattle.oas_reader.specs.Drawn.{KeepsDrawnIn, KeepsWantedIn, IsRefusedBy, bad_at}
use Rattle.oas_reader.specs.declared.bodies.Body.{Body}
use Rattle.oas_reader.specs.declared.bodies.Body.TheVariants as bodies
use Rattle.oas_reader.specs.declared.refusing.OasBad.{OasBad}
use Rattle.oas_reader.specs.declared.refusing.OasBad.TheVariants as faults

pub wanted_keeps : (body : Body) (fields : Fields) (rep : Option Rep) (rule : ℕ) → body ≢ bodies.Undrawn
    → KeepsDrawnIn body fields rep rule → KeepsWantedIn body fields rep rule
wanted_keeps bodies.Undrawn fields rep rule drawn k = absurd (drawn refl)
wanted_keeps body fields rep rule drawn k = k

wanted_kept : (body : Body) (fields : Fields) (rep : Option Rep) (rule : ℕ) → body ≢ bodies.Undrawn
    → KeepsWantedIn body fields rep rule → KeepsDrawnIn body fields rep rule
wanted_kept bodies.Undrawn fields rep rule drawn k = absurd (drawn refl)
wanted_kept body fields rep rule drawn k = k

pub wanted_lowest : (body : Body) (fields : Fields) (rep : Option Rep) (rule : ℕ) → body ≢ bodies.Undrawn
    → IsLowest (KeepsDrawnIn body fields rep) rule → IsLowest (KeepsWantedIn body fields rep) rule
wanted_lowest body fields rep rule drawn low = record {
  broken = λ kept. low.broken (wanted_kept body fields rep rule drawn kept);
  lower = λ other less. wanted_keeps body fields rep other drawn (low.lower other less);
}

pub refused_by : (K : ℕ → Type 0) (at : ℕ) (u : Undrawn) (refusal : Refusal OasBad) → refusal ≡ bad_at u at
    → ((rule : ℕ) → u ≡ undrawns.Rule rule → IsLowest K rule) → IsForFault (IsRefusedBy K at) refusal
refused_by K at (undrawns.Rule rule) refusal told low = rw told (rule, refl, low rule refl)
refused_by K at undrawns.NoMemory refusal told low = rw told tt

-- memory that ran out is told of nothing else
pub wanting_by : (at : ℕ) (u : Undrawn) (refusal : Refusal OasBad) → refusal ≡ bad_at u at → refusal ≡ NoMemory → u ≡ undrawns.NoMemory
wanting_by at (undrawns.Rule rule) refusal told e = absurd (let value : Fault (faults.Value at rule) ≡ NoMemory = sym told ∙ e in cc)
wanting_by at undrawns.NoMemory refusal told e = refl

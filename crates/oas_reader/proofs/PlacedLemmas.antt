-- Placements, and why they are refused.
use Rattle.std.proofs.Common.{◌≡◌, ℕ, ◌≤◌, true, false, nat_eq, Option, Some, List, refl, inl, inr, arith}
use Rattle.std.proofs.lemmas.Bool.{cases_lt}
use Rattle.geo_stream.specs.Refusals.{IsForFault}
use Rattle.geo_stream.specs.declared.refusal.Refusal.{Refusal}
use Rattle.geo_stream.specs.declared.refusal.Refusal.TheVariants.{Fault, NoMemory}
use Rattle.oas_record.specs.declared.fields.Called.{Called}
use Rattle.oas_record.specs.declared.repetition.Rep.{Rep}
use Rattle.oas_shapes.specs.Repetitions.{offsets_in}
use Rattle.oas_shapes.specs.Rules.{AreNear, KeepsRepetition, IsLowest}
use Rattle.oas_shapes.specs.declared.drawing.Undrawn.{Undrawn}
use Rattle.oas_shapes.specs.declared.drawing.Undrawn.TheVariants as undrawns
use Rattle.oas_reader.specs.Drawn.{IsRefusedBy, bad_at, is_first}
use Rattle.oas_reader.specs.Placed.{KeepsPlaced, KeepsOffsetsIn, KeepsTurned, magnification_in, angle_in}
use Rattle.oas_reader.specs.Reals.{IsOasisFactor, IsOasisAngle}
use Rattle.oas_reader.specs.Rules.{IsNameWhereWritten}
use Rattle.oas_reader.specs.declared.bodies.Turning.{Turning}
use Rattle.oas_reader.specs.declared.refusing.OasBad.{OasBad}

-- ---- offsets

pub kept_some : (rep : Rep) (rule : ℕ) → KeepsRepetition rep rule → KeepsOffsetsIn (Some rep) rule
kept_some rep rule k = record { near = k.near; dimension = k.dimension }

some_kept : (rep : Rep) (rule : ℕ) → KeepsOffsetsIn (Some rep) rule → KeepsRepetition rep rule
some_kept rep rule k = record { near = k.near; dimension = k.dimension }

pub lowest_some : (rep : Rep) (rule : ℕ) → IsLowest (KeepsRepetition rep) rule → IsLowest (KeepsOffsetsIn (Some rep)) rule
lowest_some rep rule low = record {
  broken = λ k. low.broken (some_kept rep rule k);
  lower = λ other less. kept_some rep other (low.lower other less);
}

-- ---- the name and the turning

pub turned : (bytes : List ℕ) (called : Option Called) (turning : Turning) (rule : ℕ) → IsNameWhereWritten bytes called
    → IsOasisFactor (magnification_in turning) → IsOasisAngle (angle_in turning) → KeepsTurned bytes called turning rule
turned bytes called turning rule name magnification angle = record {
  name = λ e. name;
  magnification = λ e. magnification;
  angle = λ e. angle;
}

-- ---- all of it

pub both_keep : (bytes : List ℕ) (called : Option Called) (turning : Turning) (rep : Option Rep) (rule : ℕ)
    → KeepsOffsetsIn rep rule → KeepsTurned bytes called turning rule → KeepsPlaced bytes called turning rep rule
both_keep bytes called turning rep rule o t = record {
  near = o.near;
  name = t.name;
  magnification = t.magnification;
  angle = t.angle;
  dimension = o.dimension;
}

offsets_keep : (bytes : List ℕ) (called : Option Called) (turning : Turning) (rep : Option Rep) (rule : ℕ)
    → KeepsPlaced bytes called turning rep rule → KeepsOffsetsIn rep rule
offsets_keep bytes called turning rep rule k = record { near = k.near; dimension = k.dimension }

turned_keep : (bytes : List ℕ) (called : Option Called) (turning : Turning) (rep : Option Rep) (rule : ℕ)
    → KeepsPlaced bytes called turning rep rule → KeepsTurned bytes called turning rule
turned_keep bytes called turning rep rule k = record { name = k.name; magnification = k.magnification; angle = k.angle }

least_near : (rep : Option Rep) (rule : ℕ) → IsLowest (KeepsOffsetsIn rep) rule → (rule ≡ 1 → ⊥) → AreNear (offsets_in rep)
least_near rep rule low other =
    elim (cases_lt 1 rule) [
      | inl above ↦ (low.lower 1 above).near refl
      | inr below ↦ absurd (low.broken (record { near = λ e. absurd (other e); dimension = λ e. absurd (omega arith) }))
    ]

first_is : (rule : ℕ) → nat_eq rule 1 ≡ true → rule ≡ 1
first_is rule e = grind arith

first_not : (rule : ℕ) → nat_eq rule 1 ≡ false → rule ≡ 1 → ⊥
first_not rule e same = grind arith

pub near_by : (rep : Option Rep) (u : Undrawn) → is_first u ≡ false
    → ((rule : ℕ) → u ≡ undrawns.Rule rule → IsLowest (KeepsOffsetsIn rep) rule) → AreNear (offsets_in rep)
near_by rep (undrawns.Rule rule) later low = least_near rep rule (low rule refl) (first_not rule later)
near_by rep undrawns.NoMemory later low = absurd (cc)

lowest_first : (bytes : List ℕ) (called : Option Called) (turning : Turning) (rep : Option Rep) (rule : ℕ) → rule ≡ 1
    → IsLowest (KeepsOffsetsIn rep) rule → IsLowest (KeepsPlaced bytes called turning rep) rule
lowest_first bytes called turning rep rule first low = record {
  broken = λ k. low.broken (offsets_keep bytes called turning rep rule k);
  lower = λ other less. record {
    near = λ e. absurd (omega arith);
    name = λ e. absurd (omega arith);
    magnification = λ e. absurd (omega arith);
    angle = λ e. absurd (omega arith);
    dimension = λ e. absurd (omega arith);
  };
}

pub refused_first : (bytes : List ℕ) (called : Option Called) (turning : Turning) (rep : Option Rep) (at : ℕ) (u : Undrawn)
    (refusal : Refusal OasBad) → refusal ≡ bad_at u at → is_first u ≡ true
    → ((rule : ℕ) → u ≡ undrawns.Rule rule → IsLowest (KeepsOffsetsIn rep) rule)
    → IsForFault (IsRefusedBy (KeepsPlaced bytes called turning rep) at) refusal
refused_first bytes called turning rep at (undrawns.Rule rule) refusal told first low =
    rw told (rule, refl, lowest_first bytes called turning rep rule (first_is rule first) (low rule refl))
refused_first bytes called turning rep at undrawns.NoMemory refusal told first low = rw told tt

lowest_last : (bytes : List ℕ) (called : Option Called) (turning : Turning) (rep : Option Rep) (rule : ℕ)
    → IsLowest (KeepsOffsetsIn rep) rule → ((other : ℕ) → KeepsTurned bytes called turning other)
    → IsLowest (KeepsPlaced bytes called turning rep) rule
lowest_last bytes called turning rep rule low t = record {
  broken = λ k. low.broken (offsets_keep bytes called turning rep rule k);
  lower = λ other less. both_keep bytes called turning rep other (low.lower other less) (t other);
}

pub refused_last : (bytes : List ℕ) (called : Option Called) (turning : Turning) (rep : Option Rep) (at : ℕ) (u : Undrawn)
    (refusal : Refusal OasBad) → refusal ≡ bad_at u at → ((rule : ℕ) → u ≡ undrawns.Rule rule → IsLowest (KeepsOffsetsIn rep) rule)
    → ((other : ℕ) → KeepsTurned bytes called turning other) → IsForFault (IsRefusedBy (KeepsPlaced bytes called turning rep) at) refusal
refused_last bytes called turning rep at (undrawns.Rule rule) refusal told low t =
    rw told (rule, refl, lowest_last bytes called turning rep rule (low rule refl) t)
refused_last bytes called turning rep at undrawns.NoMemory refusal told low t = rw told tt

-- the rules of the name and of the turning are up to 5
few_turned : (bytes : List ℕ) (called : Option Called) (turning : Turning) (rule : ℕ) → IsLowest (KeepsTurned bytes called turning) rule → rule ≤ 5
few_turned bytes called turning rule low =
    elim (cases_lt 5 rule) [
      | inl above ↦ absurd (low.broken (record {
        name = λ e. absurd (omega arith);
        magnification = λ e. absurd (omega arith);
        angle = λ e. absurd (omega arith);
      }))
      | inr below ↦ below
    ]

lowest_turned : (bytes : List ℕ) (called : Option Called) (turning : Turning) (rep : Option Rep) (rule : ℕ) → AreNear (offsets_in rep)
    → rule ≤ 5 → IsLowest (KeepsTurned bytes called turning) rule → IsLowest (KeepsPlaced bytes called turning rep) rule
lowest_turned bytes called turning rep rule near few low = record {
  broken = λ k. low.broken (turned_keep bytes called turning rep rule k);
  lower = λ other less.
      both_keep bytes called turning rep other (record { near = λ e. near; dimension = λ e. absurd (omega arith) }) (low.lower other less);
}

pub refused_turned : (bytes : List ℕ) (called : Option Called) (turning : Turning) (rep : Option Rep) (at : ℕ)
    (refusal : Refusal OasBad) → AreNear (offsets_in rep) → IsForFault (IsRefusedBy (KeepsTurned bytes called turning) at) refusal
    → IsForFault (IsRefusedBy (KeepsPlaced bytes called turning rep) at) refusal
refused_turned bytes called turning rep at (Fault bad) near (rule, told, low) =
    (rule, told, lowest_turned bytes called turning rep rule near (few_turned bytes called turning rule low) low)
refused_turned bytes called turning rep at NoMemory near h = tt

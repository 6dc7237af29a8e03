-- No bytes are neither an OASIS layout nor have a first fault, where each place of theirs holds a record or none for some
-- cause. Whether a shape can be drawn isn't computed here, so what is shown is that no bytes are neither.
use Rattle.std.proofs.Common.{◌≡◌, inl, inr, ℕ, zero, suc, ◌+◌, ◌<◌, ◌≤◌, Bool, true, false, Option, Some, None}
use Rattle.std.proofs.Common.{List, [], ◌∷◌, length, take, refl, ap, subst, arith}
use Rattle.std.proofs.lemmas.Bool.{cases_lt}
use Rattle.std.proofs.lemmas.List.{length-take}
use Rattle.half_grid.specs.declared.plane.Point.{Point}
use Rattle.layout_model.specs.declared.pair.Pair.{Pair}
use Rattle.oas_record.specs.declared.fields.Deltas.{Deltas}
use Rattle.oas_record.specs.declared.records.OasRecord.{OasRecord}
use Rattle.oas_record.specs.declared.records.OasRecord.TheVariants as records
use Rattle.oas_record.specs.declared.repetition.Rep.{Rep}
use Rattle.oas_record.specs.declared.shapes.ShapeHead.{ShapeHead}
use Rattle.oas_record.specs.declared.shapes.ShapeKind.{ShapeKind}
use Rattle.oas_record.specs.declared.shapes.ShapeKind.TheVariants as shapes
use Rattle.oas_shapes.specs.Rules.{IsLowest}
use Rattle.oas_shapes.specs.declared.figures.Brush.{Brush}
use Rattle.oas_shapes.specs.declared.figures.Figure.{Figure}
use Rattle.oas_fields.specs.Values.{polygon_points_of, path_points_of}
use Rattle.oas_reader.specs.Items.{Item, records_in, tables_at_end, magic, is_end}
use Rattle.oas_reader.specs.Meaning.{at_of, brush_of, figure_of, layout_of}
use Rattle.oas_reader.specs.Names.{conflict_of, first_unknown, first_twins}
use Rattle.oas_reader.specs.Order.{is_in_order}
use Rattle.oas_reader.specs.Reading.{item, HasUnit, IsTail, IsItemAllowed, AreItemsReadUpTo, IsWholeFile, HasAllNeeded, IsRefused}
use Rattle.oas_reader.specs.Rules.{FigureKeeps, PolygonKeeps, PathKeeps, KindKeeps, KeepsDrawn, KeepsOasisRule, KeepsOasisRules, IsLowestBrokenByItem}
use Rattle.oas_reader.specs.Undefined.{undefined_of}
use Rattle.oas_reader.specs.declared.refusing.OasBad.{OasBad}
use Rattle.oas_reader.specs.declared.refusing.OasBad.TheVariants as faults
use Rattle.layout_laws.specs.FileLaws.{HoldNoLayout, HaveNoFault, OthersHaveFault, HasRecordOrNone}

-- ---- rules

up_to : (K : ℕ → Type 0) (n m : ℕ) → ((k : ℕ) → k < n → K k) → K n → m < suc n → K m
up_to K n m below here lt = elim (cases_lt m n) [ inl less ↦ below m less | inr more ↦ let same : n ≡ m = omega arith in subst K same here ]

-- where no rule is the lowest broken one, the first n rules are kept
first_kept : (K : ℕ → Type 0) → ((rule : ℕ) → IsLowest K rule → ⊥) → (n : ℕ) → (((m : ℕ) → m < n → K m) → ⊥) → ⊥
first_kept K none zero refute = refute (λ m lt. absurd (omega arith))
first_kept K none (suc n) refute =
    first_kept K none n (λ below. none n (record { broken = λ here. refute (λ m lt. up_to K n m below here lt); lower = below }))

-- the last rule has the number 11
far_figure : (figure : Option Figure) (at : Point) (rep : Option Rep) (rule : ℕ) → 11 < rule → FigureKeeps figure at rep rule
far_figure None at rep rule far = tt
far_figure (Some figure) at rep rule far = record { near = λ e. absurd (omega arith); edges = λ e. absurd (omega arith); dimension = λ e. absurd (omega arith) }

far_polygon : (deltas : Option Deltas) (at : Point) (rep : Option Rep) (rule : ℕ) → 11 < rule → PolygonKeeps deltas at rep rule
far_polygon None at rep rule far = tt
far_polygon (Some deltas) at rep rule far = record { near = λ e. absurd (omega arith); edges = λ e. absurd (omega arith); dimension = λ e. absurd (omega arith) }

far_path : (deltas : Option Deltas) (at : Point) (brush : Brush) (rep : Option Rep) (rule : ℕ) → 11 < rule → PathKeeps deltas at brush rep rule
far_path None at brush rep rule far = tt
far_path (Some deltas) at brush rep rule far = record { near = λ e. absurd (omega arith); drawn = λ e. absurd (omega arith); dimension = λ e. absurd (omega arith) }

far_kind : (head : ShapeHead) (kind : ShapeKind) (all : List OasRecord) (rep : Option Rep) (rule : ℕ) → 11 < rule → KindKeeps head kind all rep rule
far_kind head kind all rep rule far =
    elim kind as (λ k. KindKeeps head k all rep rule) [
      | shapes.Polygon points ↦ far_polygon (polygon_points_of all) (at_of all) rep rule far
      | shapes.Path half_width extension start end points ↦ far_path (path_points_of all) (at_of all) (brush_of all) rep rule far
      | k ↦ far_figure (figure_of head k all) (at_of all) rep rule far
    ]

far_drawn : (r : OasRecord) (all : List OasRecord) (rep : Option Rep) (rule : ℕ) → 11 < rule → KeepsDrawn r all rep rule
far_drawn r all rep rule far =
    elim r as (λ s. KeepsDrawn s all rep rule) [
      | records.Shape head kind ↦ far_kind head kind all rep rule far
      | _ ↦ tt
    ]

far_rule : (bytes : List ℕ) (wanted : List Pair) (past : List OasRecord) (r : OasRecord) (rule : ℕ) → 11 < rule → KeepsOasisRule bytes wanted past r rule
far_rule bytes wanted past r rule far = record {
  positions = λ e. absurd (omega arith);
  offsets = λ e. absurd (omega arith);
  name = λ e. absurd (omega arith);
  magnification = λ e. absurd (omega arith);
  angle = λ e. absurd (omega arith);
  other = λ e. absurd (omega arith);
  version = λ e. absurd (omega arith);
  scheme = λ e. absurd (omega arith);
  dimension = λ e. absurd (omega arith);
  drawn = λ is. far_drawn r (r ∷ past) _ rule far;
}

rules_or_not : (bytes : List ℕ) (wanted : List Pair) (past : List OasRecord) (r : OasRecord) → ((rule : ℕ) → IsLowestBrokenByItem bytes wanted past r rule → ⊥)
    → (KeepsOasisRules bytes wanted past r → ⊥) → ⊥
rules_or_not bytes wanted past r none refute =
    first_kept (KeepsOasisRule bytes wanted past r) none 12
    (λ below. refute (λ rule. elim (cases_lt rule 12) [ inl near ↦ below rule near | inr far ↦ far_rule bytes wanted past r rule (omega arith) ]))

-- ---- one record

by_test : {G : Type 0} → (b : Bool) → (b ≡ true → G) → (b ≡ false → G) → G
by_test true passed failed = passed refl
by_test false passed failed = failed refl

by_option : {A G : Type 0} → (o : Option A) → (o ≡ None → G) → ((a : A) → o ≡ Some a → G) → G
by_option None absent present = absent refl
by_option (Some a) absent present = present a refl

module _ (bytes : List ℕ) (unit : ℕ) (wanted : List Pair) (past : List Item) (at : ℕ) (r : OasRecord) (next : ℕ)
    (sound : (bad : OasBad) → IsRefused bytes unit wanted past at r next bad → ⊥) where
  unit_or_not : HasAllNeeded past r → KeepsOasisRules bytes wanted (records_in past) r → conflict_of bytes past r ≡ None → (HasUnit unit r → ⊥) → ⊥
  unit_or_not defined rules names refute =
      sound (faults.Unit at) (inr (inr (inr (inr (inl (record {
        defined = defined;
        rules = rules;
        names = names;
        disagrees = refute;
        bad_is = refl;
      }))))))

  tail_or_not : HasAllNeeded past r → KeepsOasisRules bytes wanted (records_in past) r → conflict_of bytes past r ≡ None → HasUnit unit r
      → is_end r ≡ true → (IsTail bytes at next → ⊥) → ⊥
  tail_or_not defined rules names agrees ends refute =
      sound (faults.Tail at) (inr (inr (inr (inr (inr (record {
        defined = defined;
        rules = rules;
        names = names;
        unit_agrees = agrees;
        ends = ends;
        tail = refute;
        bad_is = refl;
      }))))))

  allowed_by : HasAllNeeded past r → KeepsOasisRules bytes wanted (records_in past) r → conflict_of bytes past r ≡ None
      → (IsItemAllowed bytes unit wanted past at r next → ⊥) → ⊥
  allowed_by defined rules names refute =
      unit_or_not defined rules names (λ agrees. by_test (is_end r)
      (λ ends. tail_or_not defined rules names agrees ends
      (λ tail. refute (record { defined = defined.defined; rules = rules; names = names; unit_agrees = agrees; tail = λ e. tail })))
      (λ stays. refute (record { defined = defined.defined; rules = rules; names = names; unit_agrees = agrees; tail = λ ends. absurd (cc) })))

  allowed_or_not : (is_in_order (records_in past) r ≡ true → IsItemAllowed bytes unit wanted past at r next → ⊥) → ⊥
  allowed_or_not refute =
      by_test (is_in_order (records_in past) r)
      (λ order. by_option (undefined_of (records_in past) r)
      (λ defined. rules_or_not bytes wanted (records_in past) r
      (λ rule broken. sound (faults.Value at rule) (inr (inr (inl (record {
        defined = record { order = order; defined = defined };
        rule = rule;
        broken = broken;
        bad_is = refl;
      })))))
      (λ rules. by_option (conflict_of bytes past r)
      (λ names. allowed_by (record { order = order; defined = defined }) rules names (refute order))
      (λ first conflict. sound (faults.Names first at) (inr (inr (inr (inl (record {
        defined = record { order = order; defined = defined };
        rules = rules;
        first = first;
        conflict = conflict;
        bad_is = refl;
      }))))))))
      (λ variable undefined. sound (faults.Undefined at variable) (inr (inl (record {
        order = order;
        variable = variable;
        undefined = undefined;
        bad_is = refl;
      })))))
      (λ out. sound (faults.Order at) (inl (record { order = out; bad_is = refl })))

-- ---- all records

module _ (bytes : List ℕ) (unit : ℕ) (wanted : List Pair) (none : HoldNoLayout bytes unit wanted) (faultless : HaveNoFault bytes unit wanted)
    (places : (at : ℕ) → at ≤ length bytes → (tables : Bool) → HasRecordOrNone bytes at tables) where
  ends_or_not : (last : Item) (past : List Item) (next : ℕ) → IsWholeFile bytes unit wanted last past next → ⊥
  ends_or_not last past next whole =
      by_option (first_unknown bytes (records_in (last ∷ past)) (last ∷ past))
      (λ known. by_option (first_twins bytes (records_in (last ∷ past)) (last ∷ past))
      (λ distinct. none (layout_of bytes wanted (records_in (last ∷ past))) (record {
        last = last;
        past = past;
        next = next;
        whole = whole;
        known = known;
        distinct = distinct;
        layout_is = refl;
      }))
      (λ twins same. faultless (faults.Names twins.0 twins.1) (inr (inr (record {
        last = last;
        past = past;
        next = next;
        whole = whole;
        fault = inr (twins.0, twins.1, known, same, refl);
      })))))
      (λ where_at unknown. faultless (faults.Value where_at 3) (inr (inr (record {
        last = last;
        past = past;
        next = next;
        whole = whole;
        fault = inl (where_at, unknown, refl);
      }))))

  -- with so many bytes left at most
  none_left : (n : ℕ) (past : List Item) (at : ℕ) → AreItemsReadUpTo bytes unit wanted past at → at ≤ length bytes → length bytes < at + n → ⊥
  none_left zero past at read within left = omega (arith, within, left)
  none_left (suc n) past at read within left = elim (places at within (tables_at_end (records_in past))) [
    | inr without ↦ faultless (faults.Lexical at without.0) (inr (inl (record {
      past = past;
      at = at;
      read = read;
      fault = inl (record { cause = without.0; none = without.1; bad_is = refl });
    })))
    | inl some ↦
        allowed_or_not bytes unit wanted past at some.r some.next
        (λ bad refused. faultless bad (inr (inl (record {
          past = past;
          at = at;
          read = read;
          fault = inr (record { r = some.r; next = some.next; stands = some.stands; refused = refused });
        }))))
        (λ order allowed. by_test (is_end some.r)
        (λ ends. ends_or_not (item at some.r) past some.next
        (record { read = read; stands = some.stands; order = order; allowed = allowed; ends = ends }))
        (λ stays. none_left n (item at some.r ∷ past) some.next (record {
          begins = read.begins;
          run = (some.stands, read.run);
          goes_on = (stays, read.goes_on);
          allowed = (order, allowed, read.allowed);
        }) some.within (let onward = some.onward in omega (arith, onward, left))))
  ]

  begins : take 13 bytes ≡ magic → ⊥
  begins same =
      let size : length (take 13 bytes) ≡ 13 = ap (λ (bs : List ℕ). length bs) same in
      let cut = length-take 13 bytes in
      none_left (suc (length bytes)) [] 13 (record { begins = same; run = refl; goes_on = tt; allowed = tt }) (omega (arith, size, cut)) (omega arith)

  nothing : ⊥
  nothing = faultless faults.Magic (inl (record { begins = begins; bad_is = refl }))

pub others_have_fault : (bytes : List ℕ) → ((at : ℕ) → at ≤ length bytes → (tables : Bool) → HasRecordOrNone bytes at tables) → OthersHaveFault bytes
others_have_fault bytes places unit wanted none faultless = nothing bytes unit wanted none faultless places

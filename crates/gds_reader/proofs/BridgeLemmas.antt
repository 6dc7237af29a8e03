-- What is kept of an element says what its records say.
use Rattle.std.proofs.Common.{◌≡◌, ℕ, Bool, true, false, cond, List, [], ◌∷◌, Option, Some, None, refl, sym, ap, subst, ◌∙◌, ◌⊎◌, inl, inr}
use Rattle.std.specs.Prelude.{ℤ}
use Rattle.half_grid.specs.declared.plane.Point.{Point}
use Rattle.layout_model.specs.declared.orient.Orient.{Orient}
use Rattle.layout_model.specs.declared.pair.Pair.{Pair}
use Rattle.layout_model.specs.declared.cells.Placement.{Placement}
use Rattle.gds_record.specs.declared.kinds.Kind.{Kind}
use Rattle.gds_record.specs.declared.kinds.Kind.TheVariants.{Header, Boundary, Path, Sref, Aref, Width, Xy, Sname, ColRow, PathType, BgnExtn, EndExtn}
use Rattle.gds_record.specs.declared.records.Record.{Record}
use Rattle.gds_reader.specs.declared.elements.Element.{Element}
use Rattle.gds_reader.specs.Past.{same_kind, element_kind, own_record}
use Rattle.gds_reader.specs.Values.{number2_in, signed4_in, pair_of, columns_in, rows_in, name_in, points_in, is_wanted, KeepsGdsiiRule, KeepsAs, KeepsXy, IsLowest}
use Rattle.gds_reader.specs.Meaning.{is_drawn, wanted_at, shapes_as, shapes_at, placements_as, placements_at, orient_of, placed, first_of, origin, array_places}
use Rattle.gds_reader.specs.Elements.{IsElementOf, shapes_by, KeepsBy, placements_kept, place_kept}

-- an element of this kind with what its records say
abbrev pub element_at : List ℕ → List Record → Orient → Option Kind → Element
element_at bytes past orient kind = record {
  kind = kind;
  pair = pair_of bytes past;
  target = own_record Sname past;
  path_type = number2_in bytes (own_record PathType past);
  width = signed4_in bytes (own_record Width past);
  begin = signed4_in bytes (own_record BgnExtn past);
  end = signed4_in bytes (own_record EndExtn past);
  orient = orient;
  columns = columns_in bytes (own_record ColRow past);
  rows = rows_in bytes (own_record ColRow past);
}

pub element_is : (bytes : List ℕ) (past : List Record) (e : Element) → IsElementOf bytes past e → e ≡ element_at bytes past e.orient (element_kind past)
element_is bytes past e f =
    ap (λ (x : Option Kind). let p : Element =
    record {
      kind = x;
      pair = e.pair;
      target = e.target;
      path_type = e.path_type;
      width = e.width;
      begin =
          e.begin;
      end = e.end;
      orient = e.orient;
      columns = e.columns;
      rows = e.rows;
    } in p) f.kind
    ∙ ap (λ (x : Pair). let p : Element =
    record {
      kind = element_kind past;
      pair = x;
      target = e.target;
      path_type = e.path_type;
      width =
          e.width;
      begin = e.begin;
      end = e.end;
      orient = e.orient;
      columns = e.columns;
      rows = e.rows;
    } in p) f.pair
    ∙ ap (λ (x : Option Record). let p : Element =
    record {
      kind = element_kind past;
      pair = pair_of bytes past;
      target = x;
      path_type = e.path_type;
      width =
          e.width;
      begin = e.begin;
      end = e.end;
      orient = e.orient;
      columns = e.columns;
      rows = e.rows;
    } in p) f.target
    ∙ ap (λ (x : ℕ). let p : Element =
    record {
      kind = element_kind past;
      pair = pair_of bytes past;
      target = own_record Sname past;
      path_type =
          x;
      width = e.width;
      begin = e.begin;
      end = e.end;
      orient = e.orient;
      columns = e.columns;
      rows = e.rows;
    } in p)
    f.path_type
    ∙ ap (λ (x : ℤ). let p : Element =
    record {
      kind = element_kind past;
      pair = pair_of bytes past;
      target = own_record Sname past;
      path_type =
          number2_in bytes (own_record PathType past);
      width = x;
      begin = e.begin;
      end = e.end;
      orient =
          e.orient;
      columns = e.columns;
      rows = e.rows;
    } in p) f.width
    ∙ ap (λ (x : ℤ). let p : Element =
    record {
      kind = element_kind past;
      pair = pair_of bytes past;
      target = own_record Sname past;
      path_type =
          number2_in bytes (own_record PathType past);
      width = signed4_in bytes (own_record Width past);
      begin = x;
      end =
          e.end;
      orient = e.orient;
      columns = e.columns;
      rows = e.rows;
    } in p) f.begin
    ∙ ap (λ (x : ℤ). let p : Element =
    record {
      kind = element_kind past;
      pair = pair_of bytes past;
      target = own_record Sname past;
      path_type =
          number2_in bytes (own_record PathType past);
      width = signed4_in bytes (own_record Width past);
      begin =
          signed4_in bytes (own_record BgnExtn past);
      end = x;
      orient = e.orient;
      columns = e.columns;
      rows = e.rows;
    } in
    p) f.end
    ∙ ap (λ (x : ℕ). let p : Element =
    record {
      kind = element_kind past;
      pair = pair_of bytes past;
      target = own_record Sname past;
      path_type =
          number2_in bytes (own_record PathType past);
      width = signed4_in bytes (own_record Width past);
      begin =
          signed4_in bytes (own_record BgnExtn past);
      end = signed4_in bytes (own_record EndExtn past);
      orient =
          e.orient;
      columns = x;
      rows = e.rows;
    } in p) f.columns
    ∙ ap (λ (x : ℕ). let p : Element =
    record {
      kind = element_kind past;
      pair = pair_of bytes past;
      target = own_record Sname past;
      path_type =
          number2_in bytes (own_record PathType past);
      width = signed4_in bytes (own_record Width past);
      begin =
          signed4_in bytes (own_record BgnExtn past);
      end = signed4_in bytes (own_record EndExtn past);
      orient =
          e.orient;
      columns = columns_in bytes (own_record ColRow past);
      rows = x;
    } in p) f.rows

-- ---- by the kind of the element

shapes_case : (bytes : List ℕ) (past : List Record) (orient : Orient) (points : List Point) (k : Option Kind) (w : Bool)
    → shapes_by (cond (is_drawn k) (Some w) None) (element_at bytes past orient k) points ≡ cond w (shapes_as k bytes past points) []
shapes_case bytes past orient points None true = refl
shapes_case bytes past orient points None false = refl
shapes_case bytes past orient points (Some k) true =
    elim k as (λ k. shapes_by (cond (is_drawn (Some k)) (Some true) None)
    (element_at bytes past orient (Some k)) points ≡ shapes_as (Some k) bytes past points) [
      | Header ↦ refl
      | _ ↦
          refl
    ]
shapes_case bytes past orient points (Some k) false =
    elim k as (λ k. shapes_by (cond (is_drawn (Some k)) (Some false) None) (element_at bytes past orient (Some k)) points ≡ []) [ Header ↦ refl | _ ↦ refl ]

place_case : (bytes : List ℕ) (past : List Record) (orient : Orient) (k : Option Kind) (r : Option Record) (at : Point) (offsets : List Point)
    → orient ≡ orient_of bytes past → place_kept bytes (element_at bytes past orient k) r at offsets ≡ placed bytes past r at offsets
place_case bytes past orient k None at offsets e = refl
place_case bytes past orient k (Some r) at offsets e =
    ap (λ (o : Orient). let p : Placement = record { target = name_in bytes r; orient = o; at = at; offsets = offsets } in p ∷ []) e

placements_case : (bytes : List ℕ) (past : List Record) (orient : Orient) (points : List Point) (k : Option Kind)
    → ((k ≡ Some Sref) ⊎ (k ≡ Some Aref) → orient ≡ orient_of bytes past)
    → placements_kept k bytes (element_at bytes past orient k) points ≡ placements_as k bytes past points
placements_case bytes past orient points None e = refl
placements_case bytes past orient points (Some k) e =
    elim k as (λ k. ((Some k ≡ Some Sref) ⊎ (Some k ≡ Some Aref) → orient ≡ orient_of bytes past)
    → placements_kept (Some k) bytes (element_at bytes past orient (Some k)) points ≡ placements_as (Some k) bytes past points) [
      | Sref ↦ λ e. place_case bytes past orient (Some Sref) (own_record Sname past) (first_of points) (origin ∷ []) (e (inl refl))
      | Aref ↦ λ e. place_case bytes past orient (Some Aref) (own_record Sname past) (first_of points)
          (array_places (columns_in bytes (own_record ColRow past)) (rows_in bytes (own_record ColRow past)) points) (e (inr refl))
      | _ ↦ λ e. refl
    ] e

keeps_to : (bytes : List ℕ) (wanted : List Pair) (past : List Record) (orient : Orient) (points : List Point) (rule : ℕ) (k : Option Kind) (w : Bool)
    → is_wanted bytes wanted past ≡ w
    → KeepsBy (cond (is_drawn k) (Some w) None) (element_at bytes past orient k) points rule → KeepsXy bytes wanted past points k rule
keeps_to bytes wanted past orient points rule None w e h = tt
keeps_to bytes wanted past orient points rule (Some k) true e h =
    elim k as (λ k. KeepsBy (cond (is_drawn (Some k)) (Some true) None)
    (element_at bytes past orient (Some k)) points rule → KeepsXy bytes wanted past points (Some k) rule) [
      | Boundary ↦ λ h yes. h
      | Path ↦ λ h yes. h
      | _ ↦ λ h. h
    ] h
keeps_to bytes wanted past orient points rule (Some k) false e h =
    elim k as (λ k. KeepsBy (cond (is_drawn (Some k)) (Some false) None)
    (element_at bytes past orient (Some k)) points rule → KeepsXy bytes wanted past points (Some k) rule) [
      | Boundary ↦ λ h yes. absurd (cc)
      | Path ↦ λ h yes. absurd (cc)
      | _ ↦ λ h. h
    ] h

keeps_from : (bytes : List ℕ) (wanted : List Pair) (past : List Record) (orient : Orient) (points : List Point) (rule : ℕ) (k : Option Kind) (w : Bool)
    → is_wanted bytes wanted past ≡ w
    → KeepsXy bytes wanted past points k rule → KeepsBy (cond (is_drawn k) (Some w) None) (element_at bytes past orient k) points rule
keeps_from bytes wanted past orient points rule None w e h = tt
keeps_from bytes wanted past orient points rule (Some k) true e h =
    elim k as (λ k. KeepsXy bytes wanted past points (Some k) rule
    → KeepsBy (cond (is_drawn (Some k)) (Some true) None) (element_at bytes past orient (Some k)) points rule) [
      | Boundary ↦ λ h. h e
      | Path ↦ λ h. h e
      | _ ↦ λ h. h
    ] h
keeps_from bytes wanted past orient points rule (Some k) false e h =
    elim k as (λ k. KeepsXy bytes wanted past points (Some k) rule
    → KeepsBy (cond (is_drawn (Some k)) (Some false) None) (element_at bytes past orient (Some k)) points rule) [
      | Boundary ↦ λ h. tt
      | Path ↦ λ h. tt
      | _ ↦ λ h. h
    ] h

-- ---- at an XY

drawn_at_xy : (bytes : List ℕ) (wanted : List Pair) (past : List Record) (r : Record) → r.kind ≡ Xy
    → wanted_at bytes wanted past r ≡ cond (is_drawn (element_kind past)) (Some (is_wanted bytes wanted past)) None
drawn_at_xy bytes wanted past r kind =
    ap (λ k. cond (cond (same_kind k Xy) (is_drawn (element_kind past)) false) (Some (is_wanted bytes wanted past)) None) kind

pub shapes_of_xy : (bytes : List ℕ) (wanted : List Pair) (past : List Record) (r : Record) (e : Element) (drawn : Option Bool) → r.kind ≡ Xy
    → IsElementOf bytes past e → drawn ≡ wanted_at bytes wanted past r → shapes_by drawn e (points_in bytes r) ≡ shapes_at bytes wanted past r
shapes_of_xy bytes wanted past r e drawn kind f d =
    let points = points_in bytes r in
    ap (λ (x : Element). shapes_by drawn x points) (element_is bytes past e f)
    ∙ ap (λ d. shapes_by d (element_at bytes past e.orient (element_kind past)) points) (d ∙ drawn_at_xy bytes wanted past r kind)
    ∙ shapes_case bytes past e.orient points (element_kind past) (is_wanted bytes wanted past)
    ∙ sym (ap (λ k. cond (same_kind k Xy) (cond (is_wanted bytes wanted past) (shapes_as (element_kind past) bytes past points) []) []) kind)

pub placements_of_xy : (bytes : List ℕ) (past : List Record) (r : Record) (e : Element) → r.kind ≡ Xy → IsElementOf bytes past e
    → placements_kept e.kind bytes e (points_in bytes r) ≡ placements_at bytes past r
placements_of_xy bytes past r e kind f =
    let points = points_in bytes r in
    ap (λ (x : Element). placements_kept x.kind bytes x points) (element_is bytes past e f)
    ∙ placements_case bytes past e.orient points (element_kind past) f.orient
    ∙ sym (ap (λ k. cond (same_kind k Xy) (placements_as (element_kind past) bytes past points) []) kind)

pub keeps_of_xy : (bytes : List ℕ) (wanted : List Pair) (past : List Record) (r : Record) (e : Element) (drawn : Option Bool) (rule : ℕ) → r.kind ≡ Xy
    → IsElementOf bytes past e → drawn ≡ wanted_at bytes wanted past r → KeepsBy drawn e (points_in bytes r) rule → KeepsGdsiiRule bytes wanted past r rule
keeps_of_xy bytes wanted past r e drawn rule kind f d h =
    let points = points_in bytes r in
    let at_element = subst (λ (x : Element). KeepsBy drawn x points rule) (element_is bytes past e f) h in
    let at_drawn = subst (λ d. KeepsBy d (element_at bytes past e.orient (element_kind past)) points rule)
    (d ∙ drawn_at_xy bytes wanted past r kind) at_element in
    subst (λ k. KeepsAs k bytes wanted past r rule) (sym kind)
    (keeps_to bytes wanted past e.orient points rule (element_kind past)
    (is_wanted bytes wanted past) refl at_drawn)

pub keeps_by_xy : (bytes : List ℕ) (wanted : List Pair) (past : List Record) (r : Record) (e : Element) (drawn : Option Bool) (rule : ℕ) → r.kind ≡ Xy
    → IsElementOf bytes past e → drawn ≡ wanted_at bytes wanted past r → KeepsGdsiiRule bytes wanted past r rule → KeepsBy drawn e (points_in bytes r) rule
keeps_by_xy bytes wanted past r e drawn rule kind f d h =
    let points = points_in bytes r in
    let at_xy = subst (λ k. KeepsAs k bytes wanted past r rule) kind h in
    let at_drawn = keeps_from bytes wanted past e.orient points rule (element_kind past) (is_wanted bytes wanted past) refl at_xy in
    let at_element = subst (λ d. KeepsBy d (element_at bytes past e.orient (element_kind past)) points rule)
    (sym (d ∙ drawn_at_xy bytes wanted past r kind)) at_drawn in
    subst (λ (x : Element). KeepsBy drawn x points rule) (sym (element_is bytes past e f)) at_element

pub lowest_of_xy : (bytes : List ℕ) (wanted : List Pair) (past : List Record) (r : Record) (e : Element) (drawn : Option Bool) (rule : ℕ) → r.kind ≡ Xy
    → IsElementOf bytes past e → drawn ≡ wanted_at bytes wanted past r → IsLowest (KeepsBy drawn e (points_in bytes r)) rule
    → IsLowest (KeepsGdsiiRule bytes wanted past r) rule
lowest_of_xy bytes wanted past r e drawn rule kind f d low = record {
  broken = λ h. low.broken (keeps_by_xy bytes wanted past r e drawn rule kind f d h);
  lower = λ other less. keeps_of_xy bytes wanted past r e drawn other kind f d (low.lower other less);
}

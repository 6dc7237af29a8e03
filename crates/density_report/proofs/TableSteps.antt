-- What is put for the tables of outputs, one after another.
use Rattle.std.proofs.Common.{ℕ, zero, suc, ◌≤◌, ◌<◌, ◌≡◌, inl, inr, ℤ, ◌*ℤ◌, ◌≤ℤ◌, Bool, true, false, List, [], ◌∷◌}
use Rattle.std.proofs.Common.{◌++◌, length, take, flat_map, get_or, nat_lt, slice_get, Some, IsTrue, arith, refl, sym}
use Rattle.std.proofs.Common.{ap, subst, ◌∙◌, append_assoc}
use Rattle.std.proofs.lemmas.Int.{ints}
use Rattle.std.proofs.lemmas.Bool.Decides.{nat_tests}
use Rattle.std.proofs.lemmas.List.{append-nil, length-append, take_all}
use Rattle.std.proofs.lemmas.Option.{same_Some, slice_get-get_or, slice_get_within}
use Rattle.std.proofs.lemmas.Grind.{flat_map-append}
use Rattle.std.specs.List.{zip}
use Rattle.half_grid.specs.Windows.{RowRange}
use Rattle.depot.specs.Content.{Content, with_said, IsPartSaid}
use Rattle.depot.specs.Printing.{IsSaidButFor}
use Rattle.depot.proofs.ForCallers.{hold_more, part_held, said_then, say_held}
use Rattle.density_map.specs.Windows.{IsWindowSize}
use Rattle.half_grid.specs.Sizes.{IsNumberIn}
use Rattle.deck_text.specs.declared.deck.Output.{Output}
use Rattle.deck_plan.specs.Plans.{Planned, planned_area}
use Rattle.density_report.specs.declared.entries.Entry.{Entry}
use Rattle.density_report.specs.declared.entries.Totals.{Totals}
use Rattle.density_report.specs.Tables.{Table, AreEntries, IsDensityTable}
use Rattle.density_report.specs.Texts.{size_line, entry_line, most_line, triangles_line, front_text, table_text, tables_text}
use Rattle.density_report.specs.Saying.{AreTables, IsSaid}
use Rattle.density_report.specs.Rows.{HasRows, AreTotals, AreRowsPut, AreRowsCut, IsTablePut, IsTableCut, AreTablesPut, IsBeginningSaid}
use Rattle.density_report.proofs.TableLemmas.{no_entries, total}

-- ---- one output

-- the table of the entries that were put
abbrev table_of : List Entry → Totals → Table
table_of entries totals = record { entries = entries; most = totals.most; triangles = totals.triangles }

four : (h a b c d : List ℕ) → ((h ++ a) ++ b) ++ (c ++ d) ≡ h ++ (((a ++ b) ++ c) ++ d)
four h a b c d = simp append_assoc

-- the lines of a table after what was held
lines_are : (size : ℤ) (output : Output) (table : Table) (held : List ℕ)
    → ((held ++ size_line output.file size) ++ flat_map entry_line table.entries)
    ++ (most_line table.most ++ triangles_line table.triangles) ≡ held ++ table_text size (output, table)
unfolding table_text front_text
lines_are size output table held = four held (size_line output.file size) (flat_map entry_line table.entries)
    (most_line table.most) (triangles_line table.triangles)

front_is : (size : ℤ) (file : List ℕ) (entries : List Entry) (held : List ℕ)
    → (held ++ size_line file size) ++ flat_map entry_line entries ≡ held ++ front_text size file entries
unfolding front_text
front_is size file entries held = append_assoc held (size_line file size) (flat_map entry_line entries)

first_is : (size : ℤ) (file held : List ℕ) → held ++ size_line file size ≡ held ++ front_text size file []
unfolding front_text
first_is size file held = ap (λ (l : List ℕ). held ++ l) (sym (append-nil (size_line file size)))

-- the first line was cut short; no tile lies below some row of windows
pub line_cut : (p : Planned) (k : ℕ) (size row : ℤ) (c₀ now : Content) (held : List ℕ) (output : Output)
    (rows : RowRange) → slice_get p.deck.outputs k ≡ Some output
    → HasRows p k rows → (row *ℤ size) ≤ℤ rows.y0 → IsPartSaid c₀ (held ++ size_line output.file size) now → IsTableCut p k size c₀ held now
line_cut p k size row c₀ now held output rows here outside low part = (
  front_text size output.file [],
  inl (record {
    output = output;
    here = here;
    row = row;
    entries = [];
    are = no_entries (planned_area p k) size row (λ t a. (let from = (outside t a).from in omega (arith, ints, from, low)));
    text = refl;
  }),
  subst (λ (l : List ℕ). IsPartSaid c₀ l now) (first_is size output.file held) part,
)

-- the windows' lines were
pub rows_cut : (p : Planned) (k : ℕ) (size : ℤ) (c₀ c₁ now : Content) (held b₁ : List ℕ) (output : Output) → slice_get p.deck.outputs k ≡ Some output
    → IsSaidButFor c₀ (held ++ size_line output.file size) b₁ c₁ → AreRowsCut p k size c₁ b₁ now → IsTableCut p k size c₀ held now
rows_cut p k size c₀ c₁ now held b₁ output here first cut = (
  front_text size output.file cut.entries,
  inl (record { output = output; here = here; row = cut.row; entries = cut.entries; are = cut.are; text = refl }),
  subst (λ (l : List ℕ). IsPartSaid c₀ l now) (front_is size output.file cut.entries held)
      (part_held now (hold_more (flat_map entry_line cut.entries) first) cut.content),
)

-- it is the table of the area
is_table : (p : Planned) (k : ℕ) (size : ℤ) (entries : List Entry) (totals : Totals) → IsWindowSize size
    → AreEntries (planned_area p k) size entries → AreTotals entries totals
    → IsDensityTable (planned_area p k) size (table_of entries totals)
is_table p k size entries totals h are of = record {
  entries = are;
  most = of.greatest;
  triangles = subst (λ (n : ℕ). IsNumberIn (planned_area p k) n) (sym of.sum) (total (planned_area p k) size entries h are);
}

module _ (p : Planned) (k : ℕ) (size : ℤ) (tells : Bool) (c₀ c₁ c₂ : Content) (held b₁ b₂ : List ℕ) (output : Output) (totals : Totals)
    (here : slice_get p.deck.outputs k ≡ Some output) (h : IsWindowSize size)
    (first : IsTrue tells → IsSaidButFor c₀ (held ++ size_line output.file size) b₁ c₁)
    (put : AreRowsPut p k size tells c₁ b₁ totals b₂ c₂) where
  so_far : IsTrue tells → IsSaidButFor c₀ ((held ++ size_line output.file size) ++ flat_map entry_line put.entries) b₂ c₂
  so_far told = said_then (flat_map entry_line put.entries) (first told) (put.content told)

  -- the last lines were cut short
  pub totals_cut : (now : Content) → IsTrue tells
      → IsPartSaid c₂ (b₂ ++ (most_line totals.most ++ triangles_line totals.triangles)) now
      → IsTableCut p k size c₀ held now
  totals_cut now told part = (
    table_text size (output, table_of put.entries totals),
    inr (output, table_of put.entries totals, here, is_table p k size put.entries totals h put.are put.totals_of, refl),
    subst (λ (l : List ℕ). IsPartSaid c₀ l now) (lines_are size output (table_of put.entries totals) held)
        (part_held now (hold_more (most_line totals.most ++ triangles_line totals.triangles) (so_far told)) part),
  )

  -- all lines were put
  pub table_put : (left : List ℕ) (now : Content) → (IsTrue tells → IsSaidButFor c₂ (b₂ ++ (most_line totals.most ++ triangles_line totals.triangles)) left now)
      → IsTablePut p k size tells c₀ held left now
  table_put left now last = record {
    output = output;
    here = here;
    table = table_of put.entries totals;
    is = is_table p k size put.entries totals h put.are put.totals_of;
    content = λ told. subst (λ (l : List ℕ). IsSaidButFor c₀ l left now) (lines_are size output (table_of put.entries totals) held)
        (said_then (most_line totals.most ++ triangles_line totals.triangles) (so_far told) (last told));
  }

-- ---- all outputs

-- the output at a place, as it is read
pub place : (outputs others : List Output) (k : ℕ) (x : Output) → x ≡ get_or others k x → others ≡ outputs → k < length outputs → slice_get outputs k ≡ Some x
place outputs others k x is same less = slice_get-get_or outputs k x less ∙ ap Some (ap (λ (l : List Output). get_or l k x) (sym same) ∙ sym is)

get_push : {X : Type 0} (xs : List X) (y x : X) (i : ℕ) → slice_get xs i ≡ Some x → slice_get (xs ++ y ∷ []) i ≡ Some x
get_push [] y x i e = absurd cc
get_push (z ∷ xs) y x zero e = e
get_push (z ∷ xs) y x (suc i) e = get_push xs y x i e

get_last : {X : Type 0} (xs : List X) (y : X) (n : ℕ) → length xs ≡ n → slice_get (xs ++ y ∷ []) n ≡ Some y
get_last [] y zero e = refl
get_last [] y (suc n) e = absurd (omega (arith, e))
get_last (z ∷ xs) y zero e = absurd (omega (arith, e))
get_last (z ∷ xs) y (suc n) e = get_last xs y n (omega (arith, e))

take_next : {X : Type 0} (xs : List X) (n : ℕ) (x : X) → slice_get xs n ≡ Some x → take (suc n) xs ≡ take n xs ++ x ∷ []
take_next {X} [] n x e = absurd cc
take_next {X} (y ∷ xs) zero x e = ap (λ (z : X). z ∷ []) (same_Some y x e)
take_next {X} (y ∷ xs) (suc n) x e = ap (λ (l : List X). y ∷ l) (take_next xs n x e)

zip_push : {A B : Type 0} (xs : List A) (ys : List B) (x : A) (y : B) → length xs ≡ length ys → zip (xs ++ x ∷ []) (ys ++ y ∷ []) ≡ zip xs ys ++ (x, y) ∷ []
zip_push {A} {B} [] [] x y e = refl
zip_push {A} {B} [] (b ∷ ys) x y e = absurd (omega (arith, e))
zip_push {A} {B} (a ∷ xs) [] x y e = absurd (omega (arith, e))
zip_push {A} {B} (a ∷ xs) (b ∷ ys) x y e = ap (λ (l : List (A × B)). (a, b) ∷ l) (zip_push xs ys x y (omega (arith, e)))

length_first : {X : Type 0} (xs : List X) (n : ℕ) → n ≤ length xs → length (take n xs) ≡ n
length_first xs zero h = refl
length_first [] (suc n) h = absurd (omega (arith, h))
length_first (x ∷ xs) (suc n) h = ap suc (length_first xs n (omega (arith, h)))

module _ (p : Planned) (size : ℤ) where
  pub no_tables : AreTables p size 0 []
  no_tables = record { each = λ k less. absurd (omega (arith, less)); count = refl }

  pub next_tables : (n : ℕ) (tables : List Table) (table : Table) → AreTables p size n tables
      → IsDensityTable (planned_area p n) size table → AreTables p size (suc n) (tables ++ table ∷ [])
  next_tables n tables table are is = record {
    each = λ k less. by k less (nat_lt k n) refl;
    count = (let both = length-append tables (table ∷ []) in omega (arith, both, are.count));
  }
    where
      by : (k : ℕ) → k < suc n → (b : Bool) → nat_lt k n ≡ b → (found : Table)
          × (slice_get (tables ++ table ∷ []) k ≡ Some found) × IsDensityTable (planned_area p k) size found
      by k less true e =
          let found = are.each k (grind (arith, nat_tests)) in
          (found.0, get_push tables table found.0 k found.1, found.2)
      by k less false e =
          let last : n ≡ k = grind (arith, nat_tests) in (
            table,
            subst (λ (m : ℕ). slice_get (tables ++ table ∷ []) m ≡ Some table) last (get_last tables table n are.count),
            subst (λ (m : ℕ). IsDensityTable (planned_area p m) size table) last is,
          )

  more_text : (n : ℕ) (tables : List Table) (table : Table) (output : Output) → slice_get p.deck.outputs n ≡ Some output → length tables ≡ n
      → tables_text size (take n p.deck.outputs) tables ++ table_text size (output, table) ≡ tables_text size
      (take (suc n) p.deck.outputs) (tables ++ table ∷ [])
  more_text n tables table output here count =
      let inside = slice_get_within p.deck.outputs n output here in
      let same = length_first p.deck.outputs n (omega (arith, inside)) in
      let pairs : zip (take (suc n) p.deck.outputs) (tables ++ table ∷ []) ≡ zip (take n p.deck.outputs) tables ++ (output, table) ∷ [] =
      ap (λ (l : List Output). zip l (tables ++ table ∷ [])) (take_next p.deck.outputs n output here) ∙ zip_push
      (take n p.deck.outputs) tables output table (omega (arith, same, count)) in
      ap (λ (l : List ℕ). flat_map (table_text size) (zip (take n p.deck.outputs) tables) ++ l) (sym (append-nil (table_text size (output, table))))
      ∙ sym (flat_map-append (table_text size) (zip (take n p.deck.outputs) tables) ((output, table) ∷ [])) ∙ ap (flat_map (table_text size)) (sym pairs)

  module _ (tells : Bool) (before : Content) where
    pub none_put : (held : List ℕ) → held ≡ [] → AreTablesPut p 0 size tells before held before
    none_put held e = record {
      tables = [];
      are = no_tables;
      content = λ told. record {
        said = [];
        content = sym (ap (λ (said : List ℕ). record before { said = said }) (append-nil before.said));
        whole = e;
      };
    }

    pub one_put : (n : ℕ) (now later : Content) (held left : List ℕ) → AreTablesPut p n size tells before held now
        → IsTablePut p n size tells now held left later
        → AreTablesPut p (suc n) size tells before left later
    one_put n now later held left all one = record {
      tables = all.tables ++ one.table ∷ [];
      are = next_tables n all.tables one.table all.are one.is;
      content = λ told. subst (λ (l : List ℕ). IsSaidButFor before l left later) (more_text n all.tables one.table one.output one.here all.are.count)
          (said_then (table_text size (one.output, one.table)) (all.content told) (one.content told));
    }

    pub one_cut : (n : ℕ) (now later : Content) (held : List ℕ) → n < length p.deck.outputs
        → AreTablesPut p n size tells before held now → IsTrue tells → IsTableCut p n size now held later
        → IsBeginningSaid p size before later
    one_cut n now later held less all told (bytes, inl front, part) = (
      tables_text size (take n p.deck.outputs) all.tables ++ bytes,
      record { n = n; inside = omega (arith, less); tables = all.tables; are = all.are; rest = bytes; front = inr front; text = refl },
      part_held later (hold_more bytes (all.content told)) part,
    )
    one_cut n now later held less all told (bytes, inr (output, table, here, is, e), part) = (
      tables_text size (take n p.deck.outputs) all.tables ++ bytes,
      record {
        n = suc n;
        inside = omega (arith, less);
        tables = all.tables ++ table ∷ [];
        are = next_tables n all.tables table all.are is;
        rest = [];
        front = inl refl;
        text = ap (λ (l : List ℕ). tables_text size (take n p.deck.outputs) all.tables ++ l) e ∙ more_text n all.tables table output here all.are.count
            ∙ sym (append-nil (tables_text size (take (suc n) p.deck.outputs) (all.tables ++ table ∷ [])));
      },
      part_held later (hold_more bytes (all.content told)) part,
    )

    -- what was held at the end is said, or a prefix of it
    pub last_cut : (n : ℕ) (now later : Content) (held : List ℕ) → n ≤ length p.deck.outputs
        → AreTablesPut p n size tells before held now → IsTrue tells → IsPartSaid now held later
        → IsBeginningSaid p size before later
    last_cut n now later held inside all told part = (
      tables_text size (take n p.deck.outputs) all.tables,
      record {
        n = n;
        inside = inside;
        tables = all.tables;
        are = all.are;
        rest = [];
        front = inl refl;
        text = sym (append-nil (tables_text size (take n p.deck.outputs) all.tables));
      },
      part_held later (all.content told) part,
    )

    pub all_said : (n : ℕ) (now later : Content) (held : List ℕ) → length p.deck.outputs ≡ n
        → AreTablesPut p n size tells before held now → (IsTrue tells → later ≡ with_said now held)
        → IsSaid p size tells before later
    all_said n now later held same all last = record {
      tables = all.tables;
      are = subst (λ (m : ℕ). AreTables p size m all.tables) (sym same) all.are;
      content = λ told. say_held later (all.content told) (last told)
          ∙ ap (λ (l : List Output). with_said before (tables_text size l all.tables)) (take_all n p.deck.outputs (omega (arith, same)));
    }

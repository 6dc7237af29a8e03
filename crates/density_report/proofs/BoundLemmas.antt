-- What is listed for a window is no more than the most of all entries.
use Rattle.std.proofs.Common.{ℕ, ◌+◌, ◌≤◌, ◌<◌, ◌≡◌, ℤ, Bool, true, false, List, [], ◌∷◌, Option, arith, refl, sym, subst}
use Rattle.std.proofs.lemmas.List.Elements.{All-cons, All-head, All-tail, All-append, All-weaker}
use Rattle.std.proofs.lemmas.List.Sums.{sum_by-cons}
use Rattle.std.specs.List.{All}
use Rattle.std.specs.Ordering.{int_eq}
use Rattle.half_grid.specs.declared.plane.Tile.{Tile}
use Rattle.half_grid.proofs.ForCallers.{int_eq_true}
use Rattle.density_map.specs.Windows.{IsWindowSize, IsTakenInWindow, IsWindowCount}
use Rattle.density_report.specs.declared.entries.Entry.{Entry}
use Rattle.density_report.specs.Tables.{Table, IsBefore, AreAscending, tiles_for, listed, IsFirstGreatest, IsMost, IsDensityTable, HasTrueNumbers}
use Rattle.density_report.specs.Rows.{sum_of}
use Rattle.density_report.proofs.NumberLemmas.{one_number}
use Rattle.density_report.proofs.EntryLemmas.{none_later}
use Rattle.density_report.proofs.TableLemmas.{total, have_counts}

listed_by : (i j : ℤ) (m : ℕ) (e : Entry) (es : List Entry) (b c : Bool) → int_eq e.row j ≡ b → int_eq e.column i ≡ c
    → All (IsBefore e) es → e.tiles ≤ m → listed i j es ≤ m
    → tiles_for i j e + listed i j es ≤ m
listed_by i j m e es true true p q before here rest =
    let none = subst (λ (k : ℤ). listed i k es ≡ 0) (int_eq_true e.row j p)
    (subst (λ (k : ℤ). listed k e.row es ≡ 0) (int_eq_true e.column i q) (none_later e es before)) in
    let own : tiles_for i j e ≡ e.tiles = rw (p, q) refl in
    omega (arith, none, own, here)
listed_by i j m e es true false p q before here rest = let own : tiles_for i j e ≡ 0 = rw (p, q) refl in omega (arith, own, rest)
listed_by i j m e es false c p q before here rest = let own : tiles_for i j e ≡ 0 = rw p refl in omega (arith, own, rest)

listed_bound : (i j : ℤ) (m : ℕ) (es : List Entry) → AreAscending es → All (λ (e : Entry). e.tiles ≤ m) es → listed i j es ≤ m
listed_bound i j m [] ascending few = omega arith
listed_bound i j m (e ∷ es) ascending few =
    let one = sum_by-cons (tiles_for i j) e es in
    let rest = listed_bound i j m es ascending.1 (All-tail (λ (x : Entry). x.tiles ≤ m) e es few) in
    let all = listed_by i j m e es (int_eq e.row j) (int_eq e.column i) refl refl ascending.0 (All-head (λ (x : Entry). x.tiles ≤ m) e es few) rest in
    omega (arith, one, all)

pub none_more : (es : List Entry) (greatest : Entry) → IsFirstGreatest es greatest → All (λ (e : Entry). e.tiles ≤ greatest.tiles) es
none_more es greatest p =
    subst (λ l. All (λ (e : Entry). e.tiles ≤ greatest.tiles) l) (sym p.here)
    (All-append (λ (e : Entry). e.tiles ≤ greatest.tiles) p.before (greatest ∷ p.after)
    (All-weaker (λ (e : Entry). e.tiles < greatest.tiles) (λ (e : Entry). e.tiles ≤ greatest.tiles) (λ e h. omega (arith, h)) p.before p.less)
    (All-cons (λ (e : Entry). e.tiles ≤ greatest.tiles) greatest p.after (omega arith) p.no_greater))

-- the sum
add_up : (area : Tile → Type 0) (size : ℤ) (table : Table) → IsWindowSize size → IsDensityTable area size table → sum_of table.entries ≡ table.triangles
add_up area size table h is = one_number area (sum_of table.entries) table.triangles (total area size table.entries h is.entries) is.triangles

-- the most
most_of_all : (area : Tile → Type 0) (size i j : ℤ) (n : ℕ) (table : Table) (greatest : Entry)
    → IsDensityTable area size table → IsFirstGreatest table.entries greatest → IsWindowCount area size i j n
    → n ≤ greatest.tiles
most_of_all area size i j n table greatest is first count =
    let same = one_number (IsTakenInWindow area size i j) n (listed i j table.entries) count (is.entries.counts i j) in
    let few = listed_bound i j greatest.tiles table.entries is.entries.ascending (none_more table.entries greatest first) in
    omega (arith, same, few)

-- all of a table's numbers
pub true_numbers : (area : Tile → Type 0) (size : ℤ) (table : Table) → IsWindowSize size → IsDensityTable area size table → HasTrueNumbers area size table
true_numbers area size table h is = record {
  each = have_counts area size table.entries is.entries;
  sum = add_up area size table h is;
  all = is.triangles;
  most = λ i j n greatest e count. most_of_all area size i j n table greatest is
      (subst (λ (o : Option Entry). IsMost table.entries o) e is.most) count;
}

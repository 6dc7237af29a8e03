-- What begins the text of tables is a prefix of it.
use Rattle.std.proofs.Common.{ℕ, zero, suc, ◌≤◌, ◌<◌, ◌≡◌, ◌⊎◌, inl, inr, ℤ, List, [], ◌∷◌, ◌++◌, length, take, drop}
use Rattle.std.proofs.Common.{flat_map, slice_get, Some, arith, refl, sym, ap, ◌∙◌, append_assoc}
use Rattle.std.proofs.lemmas.List.{append-nil, length-append, take-append-le}
use Rattle.std.proofs.lemmas.Grind.{flat_map-append}
use Rattle.std.proofs.lemmas.Option.{same_Some, slice_get_within}
use Rattle.std.specs.List.{zip}
use Rattle.depot.specs.Content.{Content, with_said}
use Rattle.density_map.specs.Windows.{IsWindowSize}
use Rattle.deck_text.specs.declared.deck.Output.{Output}
use Rattle.deck_plan.specs.Plans.{Planned, planned_area}
use Rattle.density_report.specs.declared.entries.Entry.{Entry}
use Rattle.density_report.specs.Tables.{Table}
use Rattle.density_report.specs.Texts.{entry_line, most_line, triangles_line, size_line, front_text, table_text, tables_text}
use Rattle.density_report.specs.Saying.{AreTables, IsDensityCutShort}
use Rattle.density_report.specs.Rows.{IsFront, IsBeginning, IsBeginningSaid}
use Rattle.density_report.proofs.OneTable.{entries_begin, one_table}

-- ---- lists, place by place

same_list : {X : Type 0} (xs ys : List X) → length xs ≡ length ys → ((k : ℕ) → k < length xs → slice_get xs k ≡ slice_get ys k) → xs ≡ ys
same_list {X} [] [] e h = refl
same_list {X} [] (y ∷ ys) e h = absurd (omega (arith, e))
same_list {X} (x ∷ xs) [] e h = absurd (omega (arith, e))
same_list {X} (x ∷ xs) (y ∷ ys) e h =
    ap (λ (z : X). z ∷ xs) (same_Some x y (h 0 (omega arith)))
    ∙ ap (λ (l : List X). y ∷ l) (same_list xs ys (omega (arith, e)) (λ k less. h (suc k) (omega (arith, less))))

get_first : {X : Type 0} (xs : List X) (n k : ℕ) → k < n → slice_get (take n xs) k ≡ slice_get xs k
get_first xs zero k less = absurd (omega (arith, less))
get_first [] (suc n) k less = refl
get_first (x ∷ xs) (suc n) zero less = refl
get_first (x ∷ xs) (suc n) (suc k) less = get_first xs n k (omega (arith, less))

length_first : {X : Type 0} (xs : List X) (n : ℕ) → n ≤ length xs → length (take n xs) ≡ n
length_first xs zero h = refl
length_first [] (suc n) h = absurd (omega (arith, h))
length_first (x ∷ xs) (suc n) h = ap suc (length_first xs n (omega (arith, h)))

drop_at : {X : Type 0} (xs : List X) (n : ℕ) (x : X) → slice_get xs n ≡ Some x → drop n xs ≡ x ∷ drop (suc n) xs
drop_at {X} [] n x e = absurd cc
drop_at {X} (y ∷ xs) zero x e = ap (λ (z : X). z ∷ xs) (same_Some y x e)
drop_at {X} (y ∷ xs) (suc n) x e = drop_at xs n x e

zip_cut : {A B : Type 0} (xs : List A) (ys : List B) (n : ℕ) → length xs ≡ length ys → zip xs ys ≡ zip (take n xs) (take n ys) ++ zip (drop n xs) (drop n ys)
zip_cut {A} {B} xs ys zero e = refl
zip_cut {A} {B} [] [] (suc n) e = refl
zip_cut {A} {B} [] (y ∷ ys) (suc n) e = absurd (omega (arith, e))
zip_cut {A} {B} (x ∷ xs) [] (suc n) e = absurd (omega (arith, e))
zip_cut {A} {B} (x ∷ xs) (y ∷ ys) (suc n) e = ap (λ (l : List (A × B)). (x, y) ∷ l) (zip_cut xs ys n (omega (arith, e)))

-- ---- tables

same_tables : (p : Planned) (size : ℤ) (n m : ℕ) (xs ys : List Table) → n ≤ m → AreTables p size n xs → AreTables p size m ys → xs ≡ take n ys
same_tables p size n m xs ys few are all =
    let long = length_first ys n (omega (arith, few, all.count)) in
    same_list xs (take n ys) (omega (arith, long, are.count)) (λ k less. (
    let inside : k < n = omega (arith, less, are.count) in
    let one = are.each k inside in
    let other = all.each k (omega (arith, inside, few)) in
    one.1 ∙ ap Some (one_table (planned_area p k) size one.0 other.0 one.2 other.2) ∙ sym other.1 ∙ sym (get_first ys n k inside)
    ))

text_cut : (size : ℤ) (outputs : List Output) (tables : List Table) (n : ℕ) → length outputs ≡ length tables
    → tables_text size outputs tables ≡ tables_text size (take n outputs) (take n tables) ++ tables_text size (drop n outputs) (drop n tables)
text_cut size outputs tables n e =
    ap (flat_map (table_text size)) (zip_cut outputs tables n e) ∙ flat_map-append (table_text size)
    (zip (take n outputs) (take n tables)) (zip (drop n outputs) (drop n tables))

four : (s a b c d : List ℕ) → ((s ++ (a ++ b)) ++ c) ++ d ≡ (s ++ a) ++ ((b ++ c) ++ d)
four s a b c d = simp append_assoc

-- the first lines of a table begin it
front_begins : (size : ℤ) (output : Output) (table : Table) (first more : List Entry) → table.entries ≡ first ++ more
    → table_text size (output, table) ≡ front_text size output.file first
    ++ ((flat_map entry_line more ++ most_line table.most) ++ triangles_line table.triangles)
unfolding table_text front_text
front_begins size output table first more e =
    ap (λ (l : List ℕ). ((size_line output.file size ++ l) ++ most_line table.most) ++ triangles_line table.triangles)
    (ap (flat_map entry_line) e ∙ flat_map-append entry_line first more)
    ∙ four (size_line output.file size) (flat_map entry_line first) (flat_map entry_line more) (most_line table.most) (triangles_line table.triangles)

rest_begins : (size : ℤ) (outputs : List Output) (tables : List Table) (n : ℕ) (output : Output) (table : Table)
    → slice_get outputs n ≡ Some output → slice_get tables n ≡ Some table
    → tables_text size (drop n outputs) (drop n tables) ≡ table_text size (output, table) ++ tables_text size (drop (suc n) outputs) (drop (suc n) tables)
rest_begins size outputs tables n output table here there =
    ap (λ (l : List Output). tables_text size l (drop n tables)) (drop_at outputs n output here)
    ∙ ap (λ (l : List Table). tables_text size (output ∷ drop (suc n) outputs) l) (drop_at tables n table there)
    ∙ flat_map-append (table_text size) ((output, table) ∷ []) (zip (drop (suc n) outputs) (drop (suc n) tables))
    ∙ ap (λ (l : List ℕ). l ++ tables_text size (drop (suc n) outputs) (drop (suc n) tables)) (append-nil (table_text size (output, table)))

beginning_is_prefix : (p : Planned) (size : ℤ) (bytes : List ℕ) (tables : List Table) → IsWindowSize size → IsBeginning p size bytes
    → AreTables p size (length p.deck.outputs) tables
    → (rest : List ℕ) × (tables_text size p.deck.outputs tables ≡ bytes ++ rest)
beginning_is_prefix p size bytes tables h b all = by b.front
  where
    by : (b.rest ≡ []) ⊎ IsFront p size b.n b.rest → (rest : List ℕ) × (tables_text size p.deck.outputs tables ≡ bytes ++ rest)
    by (inl none) =
        let first = same_tables p size b.n (length p.deck.outputs) b.tables tables b.inside b.are all in
        let start = tables_text size (take b.n p.deck.outputs) (take b.n tables) in
        let is : bytes ≡ start = b.text ∙ ap
        (λ (l : List ℕ). tables_text size (take b.n p.deck.outputs) b.tables ++ l) none ∙ append-nil
        (tables_text size (take b.n p.deck.outputs) b.tables)
        ∙ ap (λ (l : List Table). tables_text size (take b.n p.deck.outputs) l) first in
        let rest = tables_text size (drop b.n p.deck.outputs) (drop b.n tables) in
        (rest, text_cut size p.deck.outputs tables b.n (sym all.count) ∙ ap (λ (l : List ℕ). l ++ rest) (sym is))
    by (inr f) =
        let first = same_tables p size b.n (length p.deck.outputs) b.tables tables b.inside b.are all in
        let start = tables_text size (take b.n p.deck.outputs) (take b.n tables) in
        let is : bytes ≡ start ++ b.rest = b.text ∙ ap (λ (l : List Table). tables_text size (take b.n p.deck.outputs) l ++ b.rest) first in
        let own = all.each b.n (slice_get_within p.deck.outputs b.n f.output f.here) in
        let begun = entries_begin (planned_area p b.n) size f.row f.entries own.0.entries h f.are own.2.entries in
        let after = tables_text size (drop (suc b.n) p.deck.outputs) (drop (suc b.n) tables) in
        let end = (flat_map entry_line begun.0 ++ most_line own.0.most) ++ triangles_line own.0.triangles in
        let table : table_text size (f.output, own.0) ≡ b.rest ++ end =
        front_begins size f.output own.0 f.entries begun.0 begun.1 ∙ ap (λ (l : List ℕ). l ++ end)
        (sym f.text) in
        let rest : tables_text size (drop b.n p.deck.outputs) (drop b.n tables) ≡ b.rest ++ (end ++ after) =
        rest_begins size p.deck.outputs tables b.n f.output own.0 f.here own.1 ∙ ap (λ (l : List ℕ). l ++ after) table ∙ append_assoc b.rest end after in (
          end ++ after,
          text_cut size p.deck.outputs tables b.n (sym all.count) ∙ ap (λ (l : List ℕ). start ++ l) rest ∙ sym (append_assoc start b.rest (end ++ after))
              ∙ ap (λ (l : List ℕ). l ++ (end ++ after)) (sym is),
        )

-- so what was said of it is a prefix of the text
pub cut_short : (p : Planned) (size : ℤ) (tables : List Table) (before now : Content) → IsWindowSize size
    → AreTables p size (length p.deck.outputs) tables → IsBeginningSaid p size before now → IsDensityCutShort p size before now
cut_short p size tables before now h all (bytes, begins, (n, few, e)) =
    let on = beginning_is_prefix p size bytes tables h begins all in
    let long = ap (λ (l : List ℕ). length l) on.1 in
    record {
      tables = tables;
      are = all;
      part = (
        n,
        omega (arith, few, long, length-append bytes on.0),
        e ∙ ap (λ (l : List ℕ). with_said before l) (sym (ap (take n) on.1 ∙ take-append-le n bytes on.0 few)),
      );
    }

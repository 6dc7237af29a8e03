-- Right of all lines of a row the windings are 0, where the edges are balanced.
use Rattle.std.proofs.Common.{ℕ, ℤ, pos, ◌≡◌, ◌+◌, ◌-ℤ◌, ◌≤ℤ◌, ◌<ℤ◌, Bool, true, false, ◌&&◌, not, List, [], ◌∷◌, All, count_by, arith, refl, ap, sym, ◌∙◌}
use Rattle.std.specs.Int.{int_max}
use Rattle.std.proofs.lemmas.Int.{ints, clamps}
use Rattle.std.proofs.lemmas.List.Elements.{All-nil, All-cons, All-head, All-tail}
use Rattle.half_grid.specs.Edges.{EdgeParts, spans, is_of, has_on_right, winds_up, winds_down, edges_winding}
use Rattle.half_grid.specs.Lines.{strip_along, first_strip}
use Rattle.half_grid.specs.Rows.{number_in_row, place}
use Rattle.half_grid.specs.Windows.{RowRange}
use Rattle.half_grid.specs.Winding.{count_one}
use Rattle.half_grid.specs.declared.plane.Tile.{Tile}
use Rattle.half_grid.specs.declared.border.Operand.{Operand}
use Rattle.half_grid.specs.declared.border.Operand.TheVariants.{A, B}
use Rattle.half_grid.proofs.ForCallers.{count_by-cons, right_by_place, le_yes, tile_with, tile_with_number}
use Rattle.scan_line.specs.Runs.{IsBalanced, IsBalancedAt}
use Rattle.active_lines.specs.declared.item.ActiveLine.{ActiveLine}
use Rattle.active_lines.specs.declared.item.Windings.{Windings}
use Rattle.row_lists.specs.RowLists.{IsRowList, no_windings, windings_at}
use Rattle.row_lists.specs.RowRuns.{last_windings}
use Rattle.row_lists.proofs.ForCallers.{gives_windings, same_windings}

-- ---- a tile right of all edges

and_true : (b : Bool) → (b && true) ≡ b
and_true true = refl
and_true false = refl

same_right : (e : EdgeParts) (t : Tile) → place e.line t.j ≤ℤ number_in_row t → has_on_right e t ≡ spans e t.j
same_right e t h = let r = le_yes (first_strip e.line) (strip_along e.line t) (right_by_place t e.line h) in rw r (and_true (spans e t.j))

count_more : (p q : EdgeParts → Bool) (e : EdgeParts) (edges : List EdgeParts) → p e ≡ q e → count_by p edges ≡ count_by q edges
    → count_by p (e ∷ edges) ≡ count_by q (e ∷ edges)
count_more p q e edges h k =
    count_by-cons p e edges
    ∙ (ap (λ (b : Bool). count_one b + count_by p edges) h ∙ (ap (λ (n : ℕ). count_one (q e) + n) k ∙ sym (count_by-cons q e edges)))

count_up : (o : Operand) (t : Tile) (edges : List EdgeParts) → All (λ e. place e.line t.j ≤ℤ number_in_row t) edges
    → count_by (winds_up o t) edges ≡ count_by (λ e. is_of o e.operand && (e.up && spans e t.j)) edges
count_up o t [] h = refl
count_up o t (e ∷ edges) h =
    let P : EdgeParts → Type 0 = λ f. place f.line t.j ≤ℤ number_in_row t in
    let here = same_right e t (All-head P e edges h) in
    count_more (winds_up o t) (λ f. is_of o f.operand && (f.up && spans f t.j)) e edges (ap (λ (b : Bool). is_of o e.operand && (e.up && b)) here)
    (count_up o t edges (All-tail P e edges h))

count_down : (o : Operand) (t : Tile) (edges : List EdgeParts) → All (λ e. place e.line t.j ≤ℤ number_in_row t) edges
    → count_by (winds_down o t) edges ≡ count_by (λ e. is_of o e.operand && (not e.up && spans e t.j)) edges
count_down o t [] h = refl
count_down o t (e ∷ edges) h =
    let P : EdgeParts → Type 0 = λ f. place f.line t.j ≤ℤ number_in_row t in
    let here = same_right e t (All-head P e edges h) in
    count_more (winds_down o t) (λ f. is_of o f.operand && (not f.up && spans f t.j)) e edges (ap (λ (b : Bool). is_of o e.operand && (not e.up && b)) here)
    (count_down o t edges (All-tail P e edges h))

none_between : (a b c d : ℕ) → a ≡ c → b ≡ d → c ≡ d → pos a -ℤ pos b ≡ pos 0
none_between a b c d h k e = omega (arith, ints, h, k, e)

winds_not : (o : Operand) (t : Tile) (edges : List EdgeParts) → IsBalancedAt edges o t.j → All (λ e. place e.line t.j ≤ℤ number_in_row t) edges
    → edges_winding o edges t ≡ pos 0
unfolding edges_winding
winds_not o t edges balanced h = none_between _ _ _ _ (count_up o t edges h) (count_down o t edges h) balanced

-- ---- right of all lines

last_at : (j n : ℤ) (w : Windings) (lines : List ActiveLine) → All (λ l. place l.line j ≤ℤ n) lines → windings_at j n w lines ≡ last_windings w lines
last_at j n w [] h = refl
last_at j n w (l ∷ lines) h =
    let here = le_yes (place l.line j) n (All-head (λ m. place m.line j ≤ℤ n) l lines h) in
    rw here (last_at j n l.windings lines (All-tail (λ m. place m.line j ≤ℤ n) l lines h))

abbrev edge_end : ℤ → List EdgeParts → ℤ
edge_end j [] = pos 0
edge_end j (e ∷ edges) = int_max (place e.line j) (edge_end j edges)

abbrev line_end : ℤ → List ActiveLine → ℤ
line_end j [] = pos 0
line_end j (l ∷ lines) = int_max (place l.line j) (line_end j lines)

edges_up_to : (j n : ℤ) (edges : List EdgeParts) → edge_end j edges ≤ℤ n → All (λ e. place e.line j ≤ℤ n) edges
edges_up_to j n [] h = All-nil (λ e. place e.line j ≤ℤ n)
edges_up_to j n (e ∷ edges) h =
    All-cons (λ f. place f.line j ≤ℤ n) e edges (omega (arith, ints, clamps, h)) (edges_up_to j n edges (omega (arith, ints, clamps, h)))

lines_up_to : (j n : ℤ) (lines : List ActiveLine) → line_end j lines ≤ℤ n → All (λ l. place l.line j ≤ℤ n) lines
lines_up_to j n [] h = All-nil (λ l. place l.line j ≤ℤ n)
lines_up_to j n (l ∷ lines) h =
    All-cons (λ m. place m.line j ≤ℤ n) l lines (omega (arith, ints, clamps, h)) (lines_up_to j n lines (omega (arith, ints, clamps, h)))

pub last_are_none : (edges : List EdgeParts) (j : ℤ) (lines : List ActiveLine) → IsBalancedAt edges A j → IsBalancedAt edges B j → IsRowList edges j lines
    → last_windings no_windings lines ≡ no_windings
last_are_none edges j lines a b list =
    let n = int_max (edge_end j edges) (line_end j lines) in
    let t : Tile = tile_with n j in
    let at : number_in_row t ≡ n = tile_with_number n j in
    let far : line_end j lines ≤ℤ number_in_row t = omega (arith, ints, clamps, at) in
    let all = edges_up_to j (number_in_row t) edges (omega (arith, ints, clamps, at)) in
    let last = last_at j (number_in_row t) no_windings lines (lines_up_to j (number_in_row t) lines far) in
    same_windings (last_windings no_windings lines) no_windings
    (sym (ap (λ (w : Windings). w.a) last) ∙ (gives_windings edges j lines list A t refl ∙ winds_not A t edges a all))
    (sym (ap (λ (w : Windings). w.b) last) ∙ (gives_windings edges j lines list B t refl ∙ winds_not B t edges b all))

pub row_balanced : (edges : List EdgeParts) (window : RowRange) (j : ℤ) (lines : List ActiveLine) → IsBalanced edges window → window.y0 ≤ℤ j → j <ℤ window.y1
    → IsRowList edges j lines → last_windings no_windings lines ≡ no_windings
row_balanced edges window j lines balanced from below list =
    last_are_none edges j lines (balanced A j from below) (balanced B j from below) list

-- The first entry that has the most, and the sum, as entries come one after another.
use Rattle.std.proofs.Common.{ℕ, ◌+◌, ◌<◌, ◌≡◌, ℤ, List, [], ◌∷◌, ◌++◌, Option, None, take, length, get_or, arith, refl, sym, ap, subst, ◌∙◌, append_assoc}
use Rattle.std.proofs.lemmas.List.{take_more}
use Rattle.std.proofs.lemmas.List.Sums.{sum_by_push}
use Rattle.density_map.specs.declared.counts.Counted.{Counted}
use Rattle.density_report.specs.declared.entries.Entry.{Entry}
use Rattle.density_report.specs.declared.entries.Totals.{Totals}
use Rattle.density_report.specs.Tables.{IsMost}
use Rattle.density_report.specs.Rows.{entry_of, entries_of, sum_of, AreTotals}

-- ---- a row of windows, count by count

entries_more : (row : ℤ) (counts : List Counted) (c : Counted) → entries_of row (counts ++ c ∷ []) ≡ entries_of row counts ++ entry_of row c ∷ []
entries_more row [] c = refl
entries_more row (x ∷ counts) c = ap (λ l. entry_of row x ∷ l) (entries_more row counts c)

pub totals_next : (entries : List Entry) (row : ℤ) (counts : List Counted) (i : ℕ) (c d : Counted) (e : Entry)
    (now : Totals) (most : Option Entry) (triangles : ℕ)
    → i < length counts → c ≡ get_or counts i d → e ≡ entry_of row c → AreTotals (entries ++ entries_of row (take i counts)) now
    → (IsMost (entries ++ entries_of row (take i counts)) now.most
    → IsMost ((entries ++ entries_of row (take i counts)) ++ e ∷ []) most) → triangles ≡ now.triangles + c.tiles
    → AreTotals (entries ++ entries_of row (take (i + 1) counts)) (record { most = most; triangles = triangles })
totals_next entries row counts i c d e now most triangles inside is of p next more =
    let longer : (entries ++ entries_of row (take i counts)) ++ e ∷ [] ≡ entries ++ entries_of row (take (i + 1) counts) =
    ap (λ x. (entries ++ entries_of row (take i counts)) ++ x ∷ []) of ∙ append_assoc entries (entries_of row (take i counts)) (entry_of row c ∷ [])
    ∙ ap (λ l. entries ++ l)
    (sym (entries_more row (take i counts) c) ∙ ap (λ l. entries_of row l)
    (ap (λ x. take i counts ++ x ∷ []) is ∙ sym (take_more counts i d inside))) in
    let tiles : e.tiles ≡ c.tiles = ap (λ (x : Entry). x.tiles) of in
    let pushed = sum_by_push (λ (x : Entry). x.tiles) (entries ++ entries_of row (take i counts)) e in
    let sum : triangles ≡ sum_of ((entries ++ entries_of row (take i counts)) ++ e ∷ []) = omega (arith, more, p.sum, tiles, pushed) in
    record {
      greatest = subst (λ (l : List Entry). IsMost l most) longer (next p.greatest);
      sum = subst (λ (l : List Entry). triangles ≡ sum_of l) longer sum;
    }

-- before the first entry
pub no_totals : AreTotals [] (record { most = None; triangles = 0 })
no_totals = record { greatest = refl; sum = refl }

-- The lines of a report, put piece by piece.
use Rattle.std.proofs.Common.{◌≡◌, ℕ, List, [], ◌++◌, flat_map, append_assoc, refl, sym, ◌∙◌}
use Rattle.std.proofs.lemmas.List.{append-nil}
use Rattle.std.specs.Prelude.{codes, decimal}
use Rattle.std.specs.List.{zip}
use Rattle.layout_model.specs.declared.cells.Counts.{Counts}
use Rattle.deck_text.specs.declared.deck.Output.{Output}
use Rattle.shot_writer.specs.declared.parts.Sums.{Sums}
use Rattle.job_input.specs.declared.formats.Format.{Format}
use Rattle.job_report.specs.Report.{format_name, layout_lines, output_line, report}

-- a line of a word and a number
abbrev line : List ℕ → List ℕ → List ℕ
line word number = word ++ codes " " ++ number ++ codes "\n"

-- the same, put before more
abbrev put : List ℕ → List ℕ → List ℕ → List ℕ
put word number rest = (word ++ codes " ") ++ (number ++ (codes "\n" ++ rest))

step : (lines word number rest : List ℕ) → (lines ++ line word number) ++ rest ≡ lines ++ put word number rest
step lines word number rest = simp append_assoc

first : (f rest : List ℕ) → (codes "format " ++ f ++ codes "\n") ++ rest ≡ codes "format " ++ (f ++ (codes "\n" ++ rest))
first f rest = simp append_assoc

-- the first line and seven lines of numbers, in pieces and in lines
lines_of : (f a b c d e g h : List ℕ)
    → codes "format " ++ (f
    ++ (codes "\ncells "
    ++ (a ++ (codes "\nkept "
    ++ (b ++ (codes "\nother "
    ++ (c ++ (codes "\ntexts "
    ++ (d ++ (codes "\nnodes "
    ++ (e ++ (codes "\nboxes " ++ (g ++ (codes "\nproperties " ++ (h ++ (codes "\n" ++ []))))))))))))))))
    ≡ codes "format " ++ f ++ codes "\n" ++ (codes "cells" ++ codes " " ++ a ++ codes "\n")
    ++ (codes "kept" ++ codes " " ++ b ++ codes "\n") ++ (codes "other" ++ codes " " ++ c ++ codes "\n")
    ++ (codes "texts" ++ codes " " ++ d ++ codes "\n") ++ (codes "nodes" ++ codes " " ++ e ++ codes "\n")
    ++ (codes "boxes" ++ codes " " ++ g ++ codes "\n") ++ (codes "properties" ++ codes " " ++ h ++ codes "\n")
lines_of f a b c d e g h =
    let s0 = codes "format " ++ f ++ codes "\n" in
    let s1 = s0 ++ line (codes "cells") a in
    let s2 = s1 ++ line (codes "kept") b in
    let s3 = s2 ++ line (codes "other") c in
    let s4 = s3 ++ line (codes "texts") d in
    let s5 = s4 ++ line (codes "nodes") e in
    let s6 = s5 ++ line (codes "boxes") g in
    let r7 = put (codes "properties") h [] in
    let r6 = put (codes "boxes") g r7 in
    let r5 = put (codes "nodes") e r6 in
    let r4 = put (codes "texts") d r5 in
    let r3 = put (codes "other") c r4 in
    let r2 = put (codes "kept") b r3 in
    let r1 = put (codes "cells") a r2 in
    sym (sym (append-nil (s6 ++ line (codes "properties") h)) ∙ step s6 (codes "properties") h [] ∙ step s5
    (codes "boxes") g r7 ∙ step s4 (codes "nodes") e r6 ∙ step s3 (codes "texts") d r5 ∙ step s2
    (codes "other") c r4 ∙ step s1 (codes "kept") b r3 ∙ step s0 (codes "cells") a r2 ∙ first f r1)

abbrev pub layout_spelled : List ℕ → ℕ → ℕ → ℕ → ℕ → ℕ → ℕ → ℕ → List ℕ
layout_spelled f a b c d e g h =
    codes "format " ++ (f
    ++ (codes "\ncells "
    ++ (decimal a ++ (codes "\nkept "
    ++ (decimal b ++ (codes "\nother "
    ++ (decimal c ++ (codes "\ntexts "
    ++ (decimal d ++ (codes "\nnodes "
    ++ (decimal e ++ (codes "\nboxes "
    ++ (decimal g ++ (codes "\nproperties " ++ (decimal h ++ (codes "\n" ++ []))))))))))))))))

pub layout_is : (format : Format) (cells : ℕ) (counts : Counts) (f : List ℕ) (kept other texts nodes boxes properties : ℕ) → f ≡ format_name format
    → kept ≡ counts.kept → other ≡ counts.other → texts ≡ counts.texts → nodes ≡ counts.nodes → boxes ≡ counts.boxes → properties ≡ counts.properties
    → layout_spelled f cells kept other texts nodes boxes properties ≡ layout_lines format cells counts
unfolding layout_lines
layout_is format cells counts f kept other texts nodes boxes properties ef e₁ e₂ e₃ e₄ e₅ e₆ =
    rw (ef, e₁, e₂, e₃, e₄, e₅, e₆)
    (lines_of (format_name format) (decimal cells) (decimal counts.kept) (decimal counts.other)
    (decimal counts.texts) (decimal counts.nodes) (decimal counts.boxes) (decimal counts.properties))

-- the report, after what a buffer had
pub report_is : (format : Format) (cells : ℕ) (counts : Counts) (word : List ℕ) (outputs : List Output)
    (sums : List Sums) (none head : List ℕ) → none ≡ [] → head ≡ layout_lines format cells counts
    → (none ++ head) ++ flat_map (output_line word) (zip outputs sums) ≡ report format cells counts word outputs sums
unfolding report
report_is format cells counts word outputs sums none head e h = rw (e, h) refl

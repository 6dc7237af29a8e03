-- The report of a command that was done: the layout's format, how many cells it has and how many things of each kind,
-- and a line for each output of the deck, with the number of its shots and of their triangles. Each line ends with LF,
-- and all numbers are decimal.
use Rattle.std.specs.Prelude.{ℕ, List, ◌++◌, flat_map, codes, decimal}
use Rattle.std.specs.List.{zip}
use Rattle.layout_model.specs.declared.cells.Counts.{Counts}
use Rattle.deck_text.specs.declared.deck.Output.{Output}
use Rattle.shot_writer.specs.declared.parts.Sums.{Sums}
use Rattle.job_input.specs.declared.formats.Format.{Format}
use Rattle.job_input.specs.declared.formats.Format.TheVariants.{Gdsii, Oasis}

-- the format's name
abbrev pub format_name : Format → List ℕ
format_name Gdsii = codes "gdsii"
format_name Oasis = codes "oasis"

-- a line of one number
abbrev pub count_line : List ℕ → ℕ → List ℕ
count_line what number = what ++ codes " " ++ decimal number ++ codes "\n"

-- what is said of a layout with so many cells
unfoldable pub layout_lines : Format → ℕ → Counts → List ℕ
layout_lines format cells counts =
    codes "format " ++ format_name format ++ codes "\n"
    ++ count_line (codes "cells") cells
    ++ count_line (codes "kept") counts.kept ++ count_line (codes "other") counts.other
    ++ count_line (codes "texts") counts.texts ++ count_line (codes "nodes") counts.nodes
    ++ count_line (codes "boxes") counts.boxes ++ count_line (codes "properties") counts.properties

-- the line of an output, after the word that says what was done: `output out.oas shots 1 triangles 800`
unfoldable pub output_line : List ℕ → Output × Sums → List ℕ
output_line word (output, sums) =
    word ++ codes " " ++ output.file ++ codes " shots " ++ decimal sums.shots ++ codes " triangles " ++ decimal sums.triangles ++ codes "\n"

-- the report
unfoldable pub report : Format → ℕ → Counts → List ℕ → List Output → List Sums → List ℕ
report format cells counts word outputs sums = layout_lines format cells counts ++ flat_map (output_line word) (zip outputs sums)

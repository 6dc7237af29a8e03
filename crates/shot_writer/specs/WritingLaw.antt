-- A file that is started, to which lists of shots are put one after another, and which is finished, holds the one text
-- of the lists joined end to end. So it doesn't matter how a list is cut into pieces.
use Rattle.std.specs.Prelude.{ℕ, ◌≡◌, List, [], ◌∷◌}
use Rattle.depot.specs.Content.{Content, with_file, with_written}
use Rattle.geo_stream.specs.Flattened.{end_to_end}
use Rattle.half_grid.specs.Trapezoids.{Trapezoid}
use Rattle.layout_model.specs.declared.pair.Pair.{Pair}
use Rattle.oas_lex.specs.ShotText.{head, end, shot_text}
use Rattle.shot_writer.specs.Writing.{records_of}

-- the content after these lists were put
abbrev pub after_puts : Pair → Content → List (List Trapezoid) → Content
after_puts pair content [] = content
after_puts pair content (shots ∷ lists) = after_puts pair (with_written content (records_of pair shots)) lists

abbrev pub WritingLaw : Type 0
WritingLaw =
    (content : Content) (name : List ℕ) (unit : ℕ) (pair : Pair) (lists : List (List Trapezoid))
    → with_written (after_puts pair (with_file content name (head unit)) lists) end
    ≡ with_file content name (shot_text unit pair.layer pair.datatype (end_to_end lists))

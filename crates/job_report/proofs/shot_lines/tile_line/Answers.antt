use Rattle.std.proofs.Common.{◌≡◌, ◌++◌}
use Rattle.std.specs.Prelude.{codes, decimal}
use Rattle.std.specs.Fmt.{signed_decimal}
use Rattle.job_report.specs.Pieces.{text_of}
use Rattle.job_report.specs.ShotLines.{side_text, tile_line}
use Rattle.job_report.proofs.Spellings.{eleven_spell}
use Rattle.job_report.proofs.shot_lines.tile_line.Goals as goal

pub returns : goal.returns
returns c =
    let line : codes "check refused: " ++ (c.as_bytes.result.now ++ (codes
    ": tile " ++ (text_of c.column_piece-column.result ++ (codes
    " " ++ (text_of c.row_piece-row.result ++ (text_of
    c.side_piece-side.result ++ (text_of c.count_piece-is.result ++ (codes " wanted " ++ (text_of c.count_piece-should_be.result ++ codes "\n")))))))))
    ≡ tile_line c.args.file.now c.args.tile.now c.args.count c.args.wanted =
    rw (
      c.as_bytes.ensures.value,
      c.column_piece-column.ensures,
      c.row_piece-row.ensures,
      c.side_piece-side.ensures,
      c.count_piece-is.ensures,
      c.count_piece-should_be.ensures,
    )
    (eleven_spell (codes "check refused: ") c.args.file.now (codes ": tile ") (signed_decimal c.args.tile.now.i)
    (codes " ") (signed_decimal c.args.tile.now.j) (side_text c.args.tile.now.side) (decimal c.args.count)
    (codes " wanted ") (decimal c.args.wanted) (codes "\n")) in
    line

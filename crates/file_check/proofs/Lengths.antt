-- A shot file hasn't more shots than bytes.
use Rattle.std.proofs.Common.{ℕ, ◌≤◌, List, [], ◌∷◌, ◌++◌, length, ap, arith, length-append, Option}
use Rattle.std.specs.Prelude.{flat_map}
use Rattle.half_grid.specs.Trapezoids.{Trapezoid}
use Rattle.layout_model.specs.declared.pair.Pair.{Pair}
use Rattle.oas_lex.specs.ShotText.{head, end, spelling_of, shot_text}
use Rattle.oas_lex.proofs.ForCallers.{spelling_some}
use Rattle.shot_reader.specs.Reading.{IsFileOf}

-- each record has a byte at least
records_long : (l d : ℕ) (shots : List Trapezoid) → length shots ≤ length (flat_map (spelling_of l d) shots)
records_long l d [] = omega (arith)
records_long l d (z ∷ shots) =
    omega (arith, spelling_some l d z, records_long l d shots, length-append (spelling_of l d z) (flat_map (spelling_of l d) shots))

text_long : (unit l d : ℕ) (shots : List Trapezoid) → length shots ≤ length (shot_text unit l d shots)
unfolding shot_text
text_long unit l d shots =
    let r = flat_map (spelling_of l d) shots in
    omega (
      arith,
      records_long l d shots,
      length-append (head unit) (r ++ end),
      length-append
          (head unit ++ r) end,
      length-append (head unit) r,
      length-append r end,
    )

pub few_shots : (bytes : List ℕ) (unit : ℕ) (pair : Option Pair) (shots : List Trapezoid)
    → IsFileOf bytes unit pair shots → length bytes ≤ 268435456 → length shots ≤ 268435456
few_shots bytes unit pair shots f short = omega (arith, text_long unit f.layer f.datatype shots, ap length f.text, short)

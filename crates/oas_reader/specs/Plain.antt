-- A rectangle that writes no repetition, by what the program keeps of it.
use Rattle.std.specs.Prelude.{true, false}
use Rattle.oas_reader.specs.declared.bodies.Body.TheVariants as bodies
use Rattle.oas_reader.specs.declared.bodies.Outline.{Outline}

-- what of it is looked at
abbrev pub plain : Outline
plain = record { body = bodies.Rectangle; repeats = false; has_dimensions = true }

-- Which neighbours meet above a row.
use Rattle.std.proofs.Common.{ℤ, ◌<◌, ◌<ℤ◌, arith}
use Rattle.std.proofs.lemmas.Int.{ints}
use Rattle.half_grid.specs.Meetings.{MeetAt}
use Rattle.half_grid.specs.Rows.{place}
use Rattle.half_grid.specs.declared.plane.Line.{Line}
use Rattle.half_grid.specs.declared.plane.Line.TheVariants.{Upright, Rising, Falling}
use Rattle.active_lines.specs.Leaning.{lean_of}

pub leans_where_it_meets : (l m : Line) (j y : ℤ) → place l j <ℤ place m j → MeetAt l m y → j <ℤ y → lean_of m < lean_of l
leans_where_it_meets (Upright c) (Upright d) j y less meet above = omega (arith, ints, less, meet, above)
leans_where_it_meets (Upright c) (Rising d) j y less meet above = omega (arith, ints, less, meet, above)
leans_where_it_meets (Upright c) (Falling d) j y less meet above = omega (arith, ints, less, meet, above)
leans_where_it_meets (Rising c) (Upright d) j y less meet above = omega (arith, ints, less, meet, above)
leans_where_it_meets (Rising c) (Rising d) j y less meet above = omega (arith, ints, less, meet, above)
leans_where_it_meets (Rising c) (Falling d) j y less meet above = omega (arith, ints, less, meet, above)
leans_where_it_meets (Falling c) (Upright d) j y less meet above = omega (arith, ints, less, meet, above)
leans_where_it_meets (Falling c) (Rising d) j y less meet above = omega (arith, ints, less, meet, above)
leans_where_it_meets (Falling c) (Falling d) j y less meet above = omega (arith, ints, less, meet, above)

pub meets_where_it_leans : (l m : Line) (j y : ℤ) → place l j <ℤ place m j → MeetAt l m y → lean_of m < lean_of l → j <ℤ y
meets_where_it_leans (Upright c) (Upright d) j y less meet leans = omega (arith, ints, less, meet, leans)
meets_where_it_leans (Upright c) (Rising d) j y less meet leans = omega (arith, ints, less, meet, leans)
meets_where_it_leans (Upright c) (Falling d) j y less meet leans = omega (arith, ints, less, meet, leans)
meets_where_it_leans (Rising c) (Upright d) j y less meet leans = omega (arith, ints, less, meet, leans)
meets_where_it_leans (Rising c) (Rising d) j y less meet leans = omega (arith, ints, less, meet, leans)
meets_where_it_leans (Rising c) (Falling d) j y less meet leans = omega (arith, ints, less, meet, leans)
meets_where_it_leans (Falling c) (Upright d) j y less meet leans = omega (arith, ints, less, meet, leans)
meets_where_it_leans (Falling c) (Rising d) j y less meet leans = omega (arith, ints, less, meet, leans)
meets_where_it_leans (Falling c) (Falling d) j y less meet leans = omega (arith, ints, less, meet, leans)

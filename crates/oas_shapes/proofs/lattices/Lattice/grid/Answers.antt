use Rattle.std.proofs.Common.{◌≡◌, ◌∙◌, map, sym, ap, subst}
use Rattle.layout_model.specs.Grids.{grid_places}
use Rattle.layout_model.specs.Layouts.{AreOffsets}
use Rattle.oas_shapes.specs.Plane.{doubled}
use Rattle.oas_shapes.specs.Lattices.{places_of}
use Rattle.oas_shapes.specs.Ways.{way_of}
use Rattle.oas_shapes.proofs.NearLemmas.{all_halves, are_offsets}
use Rattle.oas_shapes.proofs.LatticeLemmas.{across_near, upward_near, step_or_none, is_grid, doubled_grid, some_in_grid}
use Rattle.oas_shapes.proofs.lattices.Lattice.grid.Goals as goal

pub short-requires : goal.short-requires
short-requires c =
    let l = c.args.self in
    step_or_none l.nu (way_of l.u)
    (across_near l.nu l.nv (way_of l.u) (way_of l.v) c.requires.fits.some_columns c.requires.fits.some_rows c.requires.near) c.requires.fits.columns

pub short-requires-2 : goal.short-requires-2
short-requires-2 c =
    let l = c.args.self in
    step_or_none l.nv (way_of l.v)
    (upward_near l.nu l.nv (way_of l.u) (way_of l.v) c.requires.fits.some_columns c.requires.fits.some_rows c.requires.near) c.requires.fits.rows

pub grid-requires : goal.grid-requires
grid-requires c =
    let l = c.args.self in
    rw (c.short.ensures, c.short-2.ensures) (is_grid l.nu l.nv (way_of l.u) (way_of l.v) c.requires.fits.some_columns c.requires.fits.few_columns
    c.requires.fits.some_rows c.requires.fits.few_rows c.requires.near)

pub returns-in-Ok-clause-ok : goal.returns-in-Ok-clause-ok
returns-in-Ok-clause-ok c =
    let l = c.args.self in
    let e : c.in-Ok.offsets ≡ map doubled (places_of l) =
    c.in-Ok.ensures.ok ∙ ap (λ u. grid_places l.nu l.nv u c.short-2.result) c.short.ensures
    ∙ ap (λ v. grid_places l.nu l.nv (doubled (way_of l.u)) v) c.short-2.ensures ∙ sym (doubled_grid l.nu l.nv (way_of l.u) (way_of l.v)) in (
      e,
      subst AreOffsets (sym e)
          (are_offsets (places_of l) (some_in_grid l.nu l.nv (way_of l.u) (way_of l.v) c.requires.fits.some_columns c.requires.fits.some_rows)
          (all_halves (places_of l) c.requires.near)),
    )

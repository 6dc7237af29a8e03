use Rattle.std.proofs.Common.{ℕ, List, map, sym, ap, subst}
use Rattle.half_grid.specs.declared.plane.Point.{Point}
use Rattle.layout_model.specs.Grids.{grid_places}
use Rattle.layout_model.specs.Images.{enlarged}
use Rattle.oas_shapes.specs.Plane.{origin, east, north, places_along}
use Rattle.oas_shapes.specs.Repetitions.{steps_of}
use Rattle.oas_shapes.specs.Short.{IsShort}
use Rattle.oas_shapes.proofs.ArmLemmas.{arm_ok, arm_far, arm_unkept, arm_same}
use Rattle.oas_shapes.proofs.repetitions.spread.Goals as goal

pub returns-in-RowSpaces-clause-ok : goal.returns-in-RowSpaces-clause-ok
returns-in-RowSpaces-clause-ok c =
    let places : List ℕ → List Point = λ xs. places_along origin (map east xs) in
    arm_ok c.args.repetition.now c.args.is_allowed (places c.in-RowSpaces.spaces) _ c.requires
    (sym (ap steps_of c.in-RowSpaces.is)) c.by_own_spaces.ensures.ok

pub returns-in-RowSpaces-clause-far : goal.returns-in-RowSpaces-clause-far
returns-in-RowSpaces-clause-far c =
    let places : List ℕ → List Point = λ xs. places_along origin (map east xs) in
    arm_far c.args.repetition.now (places c.in-RowSpaces.spaces) _ (sym (ap steps_of c.in-RowSpaces.is))
    c.by_own_spaces.ensures.far

pub returns-in-ColumnSpaces-clause-ok : goal.returns-in-ColumnSpaces-clause-ok
returns-in-ColumnSpaces-clause-ok c =
    let places : List ℕ → List Point = λ xs. places_along origin (map north xs) in
    arm_ok c.args.repetition.now c.args.is_allowed (places c.in-ColumnSpaces.spaces) _ c.requires
    (sym (ap steps_of c.in-ColumnSpaces.is)) c.by_own_spaces-in-ColumnSpaces.ensures.ok

pub returns-in-ColumnSpaces-clause-far : goal.returns-in-ColumnSpaces-clause-far
returns-in-ColumnSpaces-clause-far c =
    let places : List ℕ → List Point = λ xs. places_along origin (map north xs) in
    arm_far c.args.repetition.now (places c.in-ColumnSpaces.spaces) _
    (sym (ap steps_of c.in-ColumnSpaces.is))
    c.by_own_spaces-in-ColumnSpaces.ensures.far

pub returns-in-RowOnGrid-clause-ok : goal.returns-in-RowOnGrid-clause-ok
returns-in-RowOnGrid-clause-ok c =
    let places : List ℕ → List Point = λ xs. places_along origin (map (λ space. enlarged c.in-RowOnGrid.grid (east space)) xs) in
    arm_ok c.args.repetition.now c.args.is_allowed (places c.in-RowOnGrid.spaces) _ c.requires
    (sym (ap steps_of c.in-RowOnGrid.is)) c.by_spaces.ensures.ok

pub returns-in-RowOnGrid-clause-far : goal.returns-in-RowOnGrid-clause-far
returns-in-RowOnGrid-clause-far c =
    let places : List ℕ → List Point = λ xs. places_along origin (map (λ space. enlarged c.in-RowOnGrid.grid (east space)) xs) in
    arm_far c.args.repetition.now (places c.in-RowOnGrid.spaces) _
    (sym (ap steps_of c.in-RowOnGrid.is))
    c.by_spaces.ensures.far

pub returns-in-ColumnOnGrid-clause-ok : goal.returns-in-ColumnOnGrid-clause-ok
returns-in-ColumnOnGrid-clause-ok c =
    let places : List ℕ → List Point = λ xs. places_along origin (map (λ space. enlarged c.in-ColumnOnGrid.grid (north space)) xs) in
    arm_ok c.args.repetition.now c.args.is_allowed (places c.in-ColumnOnGrid.spaces) _ c.requires
    (sym (ap steps_of c.in-ColumnOnGrid.is)) c.by_spaces-in-ColumnOnGrid.ensures.ok

pub returns-in-ColumnOnGrid-clause-far : goal.returns-in-ColumnOnGrid-clause-far
returns-in-ColumnOnGrid-clause-far c =
    let places : List ℕ → List Point = λ xs. places_along origin (map (λ space. enlarged c.in-ColumnOnGrid.grid (north space)) xs) in
    arm_far c.args.repetition.now (places c.in-ColumnOnGrid.spaces) _
    (sym (ap steps_of c.in-ColumnOnGrid.is))
    c.by_spaces-in-ColumnOnGrid.ensures.far

pub returns-in-Moves-clause-ok : goal.returns-in-Moves-clause-ok
returns-in-Moves-clause-ok c =
    let places : List Point → List Point = λ xs. places_along origin xs in
    arm_ok c.args.repetition.now c.args.is_allowed (places c.in-Moves.moves) _ c.requires
    (sym (ap steps_of c.in-Moves.is)) c.by_moves.ensures.ok

pub returns-in-Moves-clause-far : goal.returns-in-Moves-clause-far
returns-in-Moves-clause-far c =
    let places : List Point → List Point = λ xs. places_along origin xs in
    arm_far c.args.repetition.now (places c.in-Moves.moves) _ (sym (ap steps_of c.in-Moves.is))
    c.by_moves.ensures.far

pub returns-in-MovesOnGrid-clause-ok : goal.returns-in-MovesOnGrid-clause-ok
returns-in-MovesOnGrid-clause-ok c =
    let places : List Point → List Point = λ xs. places_along origin (map (enlarged c.in-MovesOnGrid.grid) xs) in
    arm_ok c.args.repetition.now c.args.is_allowed (places c.in-MovesOnGrid.moves) _ c.requires
    (sym (ap steps_of c.in-MovesOnGrid.is)) c.by_moves_on_grid.ensures.ok

pub returns-in-MovesOnGrid-clause-far : goal.returns-in-MovesOnGrid-clause-far
returns-in-MovesOnGrid-clause-far c =
    let places : List Point → List Point = λ xs. places_along origin (map (enlarged c.in-MovesOnGrid.grid) xs) in
    arm_far c.args.repetition.now (places c.in-MovesOnGrid.moves) _
    (sym (ap steps_of c.in-MovesOnGrid.is))
    c.by_moves_on_grid.ensures.far

pub returns-in-Same-clause-ok : goal.returns-in-Same-clause-ok
returns-in-Same-clause-ok c = arm_same c.args.repetition.now _ c.in-Same.is c.alone.ensures.ok

pub returns-in-Grid-clause-far : goal.returns-in-Grid-clause-far
returns-in-Grid-clause-far c =
    let g = c.in-Grid in
    arm_far c.args.repetition.now (grid_places g.x_dim g.y_dim (east g.x_space) (north g.y_space)) _ (sym (ap steps_of g.is)) c.by_grid.ensures.far

pub returns-in-Lattice-clause-far : goal.returns-in-Lattice-clause-far
returns-in-Lattice-clause-far c =
    let g = c.in-Lattice in
    arm_far c.args.repetition.now (grid_places g.n_dim g.m_dim g.u g.v) _ (sym (ap steps_of g.is)) c.by_lattice.ensures.far

pub returns-in-RowSpaces-clause-unkept : goal.returns-in-RowSpaces-clause-unkept
returns-in-RowSpaces-clause-unkept c =
    let places : List ℕ → List Point = λ xs. places_along origin (map east xs) in
    arm_unkept c.args.repetition.now c.args.is_allowed (places c.in-RowSpaces.spaces) _
    (sym (ap steps_of c.in-RowSpaces.is)) c.by_own_spaces.ensures.unkept

pub returns-in-RowSpaces-clause-few : goal.returns-in-RowSpaces-clause-few
returns-in-RowSpaces-clause-few c = λ short.
    c.by_own_spaces.ensures.few (subst IsShort c.in-RowSpaces.is short)

pub returns-in-ColumnSpaces-clause-unkept : goal.returns-in-ColumnSpaces-clause-unkept
returns-in-ColumnSpaces-clause-unkept c =
    let places : List ℕ → List Point = λ xs. places_along origin (map north xs) in
    arm_unkept c.args.repetition.now c.args.is_allowed (places c.in-ColumnSpaces.spaces) _
    (sym (ap steps_of c.in-ColumnSpaces.is)) c.by_own_spaces-in-ColumnSpaces.ensures.unkept

pub returns-in-ColumnSpaces-clause-few : goal.returns-in-ColumnSpaces-clause-few
returns-in-ColumnSpaces-clause-few c = λ short.
    c.by_own_spaces-in-ColumnSpaces.ensures.few (subst IsShort c.in-ColumnSpaces.is short)

pub returns-in-RowOnGrid-clause-unkept : goal.returns-in-RowOnGrid-clause-unkept
returns-in-RowOnGrid-clause-unkept c =
    let places : List ℕ → List Point = λ xs. places_along origin (map (λ space. enlarged c.in-RowOnGrid.grid (east space)) xs) in
    arm_unkept c.args.repetition.now c.args.is_allowed (places c.in-RowOnGrid.spaces) _
    (sym (ap steps_of c.in-RowOnGrid.is)) c.by_spaces.ensures.unkept

pub returns-in-RowOnGrid-clause-few : goal.returns-in-RowOnGrid-clause-few
returns-in-RowOnGrid-clause-few c = λ short.
    c.by_spaces.ensures.few (subst IsShort c.in-RowOnGrid.is short)

pub returns-in-ColumnOnGrid-clause-unkept : goal.returns-in-ColumnOnGrid-clause-unkept
returns-in-ColumnOnGrid-clause-unkept c =
    let places : List ℕ → List Point = λ xs. places_along origin (map (λ space. enlarged c.in-ColumnOnGrid.grid (north space)) xs) in
    arm_unkept c.args.repetition.now c.args.is_allowed (places c.in-ColumnOnGrid.spaces) _
    (sym (ap steps_of c.in-ColumnOnGrid.is)) c.by_spaces-in-ColumnOnGrid.ensures.unkept

pub returns-in-ColumnOnGrid-clause-few : goal.returns-in-ColumnOnGrid-clause-few
returns-in-ColumnOnGrid-clause-few c = λ short.
    c.by_spaces-in-ColumnOnGrid.ensures.few (subst IsShort c.in-ColumnOnGrid.is short)

pub returns-in-Moves-clause-unkept : goal.returns-in-Moves-clause-unkept
returns-in-Moves-clause-unkept c =
    let places : List Point → List Point = λ xs. places_along origin xs in
    arm_unkept c.args.repetition.now c.args.is_allowed (places c.in-Moves.moves) _
    (sym (ap steps_of c.in-Moves.is)) c.by_moves.ensures.unkept

pub returns-in-Moves-clause-few : goal.returns-in-Moves-clause-few
returns-in-Moves-clause-few c = λ short.
    c.by_moves.ensures.few (subst IsShort c.in-Moves.is short)

pub returns-in-MovesOnGrid-clause-unkept : goal.returns-in-MovesOnGrid-clause-unkept
returns-in-MovesOnGrid-clause-unkept c =
    let places : List Point → List Point = λ xs. places_along origin (map (enlarged c.in-MovesOnGrid.grid) xs) in
    arm_unkept c.args.repetition.now c.args.is_allowed (places c.in-MovesOnGrid.moves) _
    (sym (ap steps_of c.in-MovesOnGrid.is)) c.by_moves_on_grid.ensures.unkept

pub returns-in-MovesOnGrid-clause-few : goal.returns-in-MovesOnGrid-clause-few
returns-in-MovesOnGrid-clause-few c = λ short.
    c.by_moves_on_grid.ensures.few (subst IsShort c.in-MovesOnGrid.is short)

pub returns-in-Grid-clause-unkept : goal.returns-in-Grid-clause-unkept
returns-in-Grid-clause-unkept c =
    let g = c.in-Grid in
    arm_unkept c.args.repetition.now c.args.is_allowed (grid_places g.x_dim g.y_dim (east g.x_space) (north g.y_space)) _
    (sym (ap steps_of g.is)) c.by_grid.ensures.unkept

pub returns-in-Lattice-clause-unkept : goal.returns-in-Lattice-clause-unkept
returns-in-Lattice-clause-unkept c =
    let g = c.in-Lattice in
    arm_unkept c.args.repetition.now c.args.is_allowed (grid_places g.n_dim g.m_dim g.u g.v) _ (sym (ap steps_of g.is)) c.by_lattice.ensures.unkept

use Rattle.std.specs.Prelude.{◌≤◌, IsTrue}
use Rattle.half_grid.specs.Trapezoids.{count_in}
use Rattle.fracture.proofs.CutLemmas.{same_tiles_of_list, list_of_shots, list_fits}
use Rattle.fracture.proofs.EconomyLemmas.{none_needless}
use Rattle.fracture.proofs.JoinedEconomy.{joined_needless}
use Rattle.fracture.proofs.laws.cut_laws.Goals as goal

pub returns-clause-same_tiles : goal.returns-clause-same_tiles
returns-clause-same_tiles c = λ height width traps t limits s. same_tiles_of_list height width limits t traps s

pub returns-clause-shots : goal.returns-clause-shots
returns-clause-shots c = λ height width traps limits s. list_of_shots height width limits traps s

pub returns-clause-fit : goal.returns-clause-fit
returns-clause-fit c = λ height width traps limits s. list_fits height width limits traps s

pub returns-clause-none_within : goal.returns-clause-none_within
returns-clause-none_within c = λ rows height width area z limits s. none_needless height width limits rows (λ t. IsTrue (area t)) z s

pub returns-clause-none_between : goal.returns-clause-none_between
returns-clause-none_between c = λ rows height width window traps limits s joined.
    joined_needless height width limits window traps joined s (λ t. 1 ≤ count_in traps t) (λ t h. h) rows

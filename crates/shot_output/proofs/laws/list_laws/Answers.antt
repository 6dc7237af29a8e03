use Rattle.shot_output.proofs.AreaLemmas.{same_layers_same_files, bands_cover_the_same}
use Rattle.shot_output.proofs.LawLemmas.{shots_are_legal, shots_fit, shots_cover, shots_are_few, triangles_are_tiles, one_shot_list}
use Rattle.shot_output.proofs.laws.list_laws.Goals as goal

pub returns-clause-legal : goal.returns-clause-legal
returns-clause-legal c = shots_are_legal

pub returns-clause-fit : goal.returns-clause-fit
returns-clause-fit c = shots_fit

pub returns-clause-cover : goal.returns-clause-cover
returns-clause-cover c = shots_cover

pub returns-clause-few : goal.returns-clause-few
returns-clause-few c = shots_are_few

pub returns-clause-triangles : goal.returns-clause-triangles
returns-clause-triangles c = triangles_are_tiles

pub returns-clause-one : goal.returns-clause-one
returns-clause-one c = one_shot_list

pub returns-clause-layers : goal.returns-clause-layers
returns-clause-layers c = same_layers_same_files

pub returns-clause-bands : goal.returns-clause-bands
returns-clause-bands c = bands_cover_the_same

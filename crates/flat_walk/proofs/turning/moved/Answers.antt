use Rattle.std.proofs.Common.{arith}
use Rattle.std.proofs.lemmas.Int.{ints}
use Rattle.flat_walk.proofs.PointLemmas.{same_point}
use Rattle.flat_walk.proofs.turning.moved.Goals as goal

pub returns : goal.returns
returns c = let a = c.requires.at.x_low in let b = c.requires.at.x_high in let d = c.requires.at.y_low in let e = c.requires.at.y_high in
    let f = c.requires.near.x_low in let g = c.requires.near.x_high in let h = c.requires.near.y_low in let i = c.requires.near.y_high in
    same_point _ _ (omega (arith, ints)) (omega (arith, ints))

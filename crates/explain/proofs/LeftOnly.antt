-- Reads, one after another.
use Rattle.std.proofs.Common.{◌≡◌, ap, ◌∙◌}
use Rattle.depot.specs.Content.{Content, with_left, ChangesLeftOnly}

-- what has changed what is left alone, twice
pub left_again : (a b c : Content) → ChangesLeftOnly a b → ChangesLeftOnly b c → ChangesLeftOnly a c
left_again a b c first then = then ∙ ap (λ (m : Content). with_left m c.left) first

use Rattle.tone_mirror.proofs.ImageLemmas.{mirrored_twice, image_has_tile, images_have_count, image_is_legal}
use Rattle.tone_mirror.proofs.laws.mirror_laws.Goals as goal

pub returns : goal.returns
returns c = record {
  mirrored_twice = mirrored_twice;
  image_has_tile = image_has_tile;
  images_have_count = images_have_count;
  image_is_legal = image_is_legal;
}

-- What the crates above may cite: the tiles of mirror images, and numbers and places in a row, over plain variables.
pub use Rattle.tone_mirror.proofs.ImageLemmas.{image_number, image_place, image_x, image_has_tile, mirrored_twice, images_have_count, image_is_legal}

-- What the crates above may cite: what was given of a band's list begins it.
pub use Rattle.band_areas.proofs.StripLemmas.{given_first}

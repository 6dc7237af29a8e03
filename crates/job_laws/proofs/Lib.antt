mod KnownAreas
mod BandLemmas

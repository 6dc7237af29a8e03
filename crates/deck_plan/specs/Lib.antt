-- ---- what is promised, in reading order
pub mod Areas
pub mod Bands
pub mod Plans
-- ---- what is kept inside
pub mod Needs
pub mod Lists
pub mod Images
pub mod Bounds
pub mod Rings
pub mod Halos
pub mod Extents
pub mod OwnLayers
pub mod LayerSets
pub mod Ready
pub mod Moves
pub mod Stacks

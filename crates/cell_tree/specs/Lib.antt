-- ---- what is promised, in reading order
pub mod Trees
pub mod Cells
pub mod Chains
pub mod Flattening
pub mod Faults
pub mod Boxes
-- ---- what is kept inside
pub mod Spots
pub mod Orders
pub mod HullTables
pub mod Linking
pub mod Searches
pub mod Heights
pub mod Factors
pub mod Counting

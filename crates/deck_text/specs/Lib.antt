-- ---- what is promised, in reading order
pub mod Kinds
pub mod Decks
pub mod Lines
pub mod Statements
pub mod Rules
pub mod Forms
pub mod Tokens
-- ---- what is kept inside
pub mod Laws
pub mod Sound
pub mod Views
pub mod SaidViews
pub mod Begun
pub mod Indexes

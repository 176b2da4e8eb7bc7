pub mod Basis
pub mod BasisMoves
pub mod Bland
pub mod Climb
pub mod Families
pub mod LiteralBounds
pub mod Pivots
pub mod PositionMoves

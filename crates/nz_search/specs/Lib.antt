pub mod Asked
pub mod Levels
pub mod Notes
pub mod Peaks
pub mod Places
pub mod Standing
pub mod Theories
pub mod Verdicts

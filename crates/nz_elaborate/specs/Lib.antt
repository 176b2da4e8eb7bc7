pub mod Definitions
pub mod Elaborate
pub mod Faults
pub mod Links
pub mod Names
pub mod Operators
pub mod Typed

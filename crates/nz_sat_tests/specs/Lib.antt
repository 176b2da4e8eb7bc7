pub mod Problems

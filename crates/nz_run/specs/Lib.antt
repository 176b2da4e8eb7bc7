pub mod Ending
pub mod Reading
pub mod Words
pub mod WorkedWords

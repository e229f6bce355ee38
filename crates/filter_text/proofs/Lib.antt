pub mod Turns
pub mod Words
pub mod Forth
pub mod Back
pub mod Lengths

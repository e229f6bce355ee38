-- The lemmas of documents, of the machine, of the ends of comments and instructions, and of what markup tells. Assumes nothing.
pub mod Runs
pub mod Bytes
pub mod Forth
pub mod Told
pub mod Back
pub mod Only
pub mod Grammatical
pub mod Known
pub mod Bridge
pub mod Scanning
pub mod Telling
pub mod Fronts
pub mod Bounds
pub mod Marks

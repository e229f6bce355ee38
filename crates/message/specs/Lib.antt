pub mod Sources
pub mod Elements
pub mod Trees
pub mod Answers
pub mod Passing
pub mod Settled

pub mod Runs
pub mod Ahead
pub mod Members
pub mod Elements
pub mod Selecting
pub mod Parses
pub mod Answering

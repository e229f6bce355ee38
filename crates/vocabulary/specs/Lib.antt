pub mod Limits
pub mod Faults
pub mod Names
pub mod Vocabularies
pub mod Entries
pub mod Tables
pub mod Readings

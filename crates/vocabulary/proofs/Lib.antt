pub mod Buckets
pub mod Entries
pub mod Codes
pub mod Spelling
pub mod Counts

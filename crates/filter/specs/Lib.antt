pub mod Embedding
pub mod Filters
pub mod Prefixes
pub mod Masks
pub mod Walks

-- The lemmas of this crate. Assumes nothing.
pub mod Replaying

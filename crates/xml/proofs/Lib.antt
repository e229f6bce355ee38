-- The lemmas of items, of tags, of the open names and of the turns of a reader. Assumes nothing.
pub mod Pieces
pub mod Tagging
pub mod Named
pub mod Quiet
pub mod Stack
pub mod Turns
pub mod Refusals

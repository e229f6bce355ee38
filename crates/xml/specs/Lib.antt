-- What stands at a place of a message, and what a reader has still to tell. Assumes nothing.
pub mod Items
pub mod Seeks
pub mod Tags
pub mod Fields
pub mod Texts
pub mod Opened

-- What words tell, and what a recording means by them. Assumes nothing.
pub mod Words
pub mod Kinds
pub mod Replays
pub mod Laws
pub mod Recordings

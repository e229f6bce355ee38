pub mod Depths
pub mod Bits
pub mod Turns
pub mod Opens
pub mod Prefixes

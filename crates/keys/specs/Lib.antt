pub mod Laws
pub mod Hashes
pub mod Presses
pub mod Codes
pub mod Routes
pub mod Fnv
pub mod Cards

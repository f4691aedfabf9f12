pub mod Ways
pub mod Parts
pub mod Front
pub mod Joins
pub mod Pairs

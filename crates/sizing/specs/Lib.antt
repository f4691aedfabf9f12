pub mod Demand
pub mod Law
pub mod Depths
pub mod Lines

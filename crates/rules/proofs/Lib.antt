pub mod Mapping
pub mod Naming
pub mod Following
pub mod Freshness
pub mod Counting
pub mod Plans
pub mod Refusing

pub mod Bits
pub mod Rows
pub mod Nodes
pub mod Lists
pub mod Laws

pub mod Repeats
pub mod Pigeons
pub mod Choosing
pub mod Below
pub mod Deepest
pub mod Progress
pub mod Routing

pub mod Records
pub mod Fed
pub mod Orders
pub mod Places
pub mod Shown
pub mod Reaching
pub mod Claims

pub mod Tree
pub mod Machine
pub mod Claim
pub mod Pairs
pub mod Turn
pub mod Rest
pub mod Rules
pub mod AtRest

pub mod Chunks
pub mod Keypresses

pub mod Fence
pub mod Fenced

pub mod World
pub mod Step
pub mod Safe
pub mod After
pub mod Simulated

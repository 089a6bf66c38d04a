pub mod State
pub mod Table
pub mod Fenced
pub mod Shown
pub mod Core
pub mod Safe

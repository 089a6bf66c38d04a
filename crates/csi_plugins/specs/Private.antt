pub mod Rebuilding
pub mod Recording
pub mod Recovering

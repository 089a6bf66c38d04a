pub mod Running
pub mod Ending

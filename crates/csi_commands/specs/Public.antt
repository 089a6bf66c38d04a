pub mod Running
pub mod Ending
pub mod Streaming
pub mod Playing

pub mod Spelling
pub mod Gives
pub mod Puts
pub mod Progress

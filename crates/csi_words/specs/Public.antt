pub mod Giving
pub mod Help
pub mod Words

pub mod Step
pub mod Simulating
pub mod Settling
pub mod Listed
pub mod Laws
pub mod Worked
pub mod Telling
pub mod Recovering

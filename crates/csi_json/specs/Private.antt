pub mod Json
pub mod Configs
pub mod Plain
pub mod EventSchedules

pub mod Version
pub mod Reading
pub mod OrchestratorReading
pub mod Stopping
pub mod Worked
pub mod Writes

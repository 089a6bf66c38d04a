pub mod Handling
pub mod Opening
pub mod Calls
pub mod Plugins
pub mod NodeOpening
pub mod Worked
pub mod OrchestratorServices
pub mod OrchestratorOpening

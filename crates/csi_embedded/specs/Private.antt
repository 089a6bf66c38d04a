pub mod Calls
pub mod Making
pub mod OrchestratorMaking
pub mod Holding
pub mod Asking
pub mod Knowing
pub mod Losing
pub mod Recovering

pub mod LinesHandling
pub mod OrchestratorResponding
pub mod Running

mod AsBox
pub mod Fullness
pub mod Handles
pub mod MadePlugins
pub mod SpelledCapabilities
pub mod Asked
pub mod HeardHandles
pub mod MadeOrchestrators
pub mod LostNodes
pub mod HandleRecords
pub mod MadeOfRecords

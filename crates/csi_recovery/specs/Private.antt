pub mod Worked
pub mod Walks
pub mod Rebuilding
pub mod Worlds
pub mod WorkedRebuilt

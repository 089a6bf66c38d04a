pub mod Judged
pub mod Rebuilding
pub mod Session
pub mod Worlds
pub mod Recovered
pub mod Rebuilt
pub mod Laws
pub mod Stale

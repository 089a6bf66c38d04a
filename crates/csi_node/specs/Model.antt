pub mod State
pub mod Table
pub mod Fenced
pub mod Shown
pub mod OneRow
pub mod Record

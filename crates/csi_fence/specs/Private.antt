pub mod Fence
pub mod Rows
pub mod Worked

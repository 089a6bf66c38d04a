pub mod Framing
pub mod Lining
pub mod Looked
pub mod Answering
pub mod Showing
pub mod Handling
pub mod Worked

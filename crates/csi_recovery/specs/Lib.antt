pub mod Public
pub mod Private

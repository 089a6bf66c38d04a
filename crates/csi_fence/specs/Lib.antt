pub mod Model
pub mod Public
pub mod Private

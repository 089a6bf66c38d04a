pub mod Loading
pub mod Tables

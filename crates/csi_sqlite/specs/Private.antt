pub mod Changing
pub mod Listed
pub mod Loading
pub mod Looking
pub mod Tables

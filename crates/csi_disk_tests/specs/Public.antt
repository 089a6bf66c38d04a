pub mod Unpromised

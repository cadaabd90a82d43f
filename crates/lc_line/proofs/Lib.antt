pub mod Keeps
pub mod Left

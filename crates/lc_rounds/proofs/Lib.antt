pub mod Stages
pub mod Plans
pub mod Beside
pub mod Calls
pub mod Resets

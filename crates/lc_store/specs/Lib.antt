pub mod Running
pub mod Opening
pub mod LeftBy
pub mod Refusals

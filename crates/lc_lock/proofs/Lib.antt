pub mod Halves
pub mod Keeps
pub mod LowBit
pub mod Seats

pub mod Slot
pub mod Page
pub mod Fault
pub mod PageVector
pub mod PageWrite
pub mod Writing

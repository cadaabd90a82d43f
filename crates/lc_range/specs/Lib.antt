pub mod Range
pub mod RangeSet
pub mod Walk
pub mod Touched
pub mod Undo
pub mod Copies
pub mod Fault
pub mod Steps

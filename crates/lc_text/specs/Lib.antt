pub use Rattle.lc_record.specs.Words
pub mod Text
pub mod Line
pub mod Lines
pub mod Fault
pub mod Inspector

pub mod Folders
pub use Rattle.lc_recover.specs.Reads

pub mod Names
pub mod Makes
pub mod SizeLines

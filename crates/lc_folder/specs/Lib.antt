pub mod Files
pub mod SizeText
pub mod Making
pub mod Renewing
pub mod Found
pub mod Sizes
pub mod Growth

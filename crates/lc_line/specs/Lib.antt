pub mod Ends
pub mod Order

pub mod KeptReceipts
pub mod ReadBack
pub mod Updated
pub mod Devices
pub mod Nodes

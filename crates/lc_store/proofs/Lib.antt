pub mod OneNode
pub mod Refused

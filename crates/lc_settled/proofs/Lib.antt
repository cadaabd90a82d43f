pub mod Settling
pub mod Turning
pub mod Appending
pub mod Closes
pub mod OneMore

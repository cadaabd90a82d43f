pub mod Built
pub mod ReadAreas
pub mod AsRead
pub mod ReadNodes
pub mod Pictures
pub mod Readings

pub mod Overlaid
pub mod Outside
pub mod Images
pub mod CopyLemmas
pub mod StopLemmas

pub mod AppliedParts
pub mod AppliedPart

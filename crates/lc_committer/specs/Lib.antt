pub mod Committer
pub mod Kept
pub mod Records
pub mod Update
pub mod Acquiring
pub mod Round

pub mod WalkLemmas
pub mod LogLemmas
pub mod StateLemmas
pub mod ResetLemmas
pub mod InPlaceLemmas
pub mod WalkBackLemmas
pub mod OneCalls

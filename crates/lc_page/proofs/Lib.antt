pub mod SlotLemmas
pub mod PageLemmas
pub mod StateLemmas
pub mod WritingLemmas

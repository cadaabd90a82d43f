pub mod RunsLemmas
pub mod PartsLemmas
pub mod RecordLemmas

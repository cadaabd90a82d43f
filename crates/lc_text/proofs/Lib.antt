mod Items
mod Numbers
mod Pages
mod Words
pub mod FieldLemmas
pub mod Writes
mod LineLemmas
mod Backwards

pub mod Answers
pub mod Ask
pub mod NameEntry
pub mod Names
pub mod Table

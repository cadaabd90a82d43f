pub mod Rows
pub mod Keeps
pub mod EveryCut
pub mod Law
pub mod Prefix
pub mod Order
pub mod Commute
pub mod Lists
pub mod Marks
pub mod Fronts
pub mod Holders
pub mod Bytes
pub mod RecordBytes
pub mod Merging
pub mod Seats
pub mod Choices
pub mod Downs
pub mod Visible
pub mod Numbers
mod Pages
pub mod Shown
pub mod Result
pub mod Moves
pub mod One
pub mod Outcome
mod Decided
pub mod SomeOutcome
pub mod Unrefused
pub mod Steps
pub mod Recovered
pub mod Within
mod Zeros
mod Tells
mod Told
mod SmallCuts
mod TwoRecords

mod Asked
mod Changes
mod Cuts
mod Decided
mod Entries
mod Listed
mod Lookups
mod Sound

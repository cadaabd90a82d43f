pub mod NewStore
mod Again
mod Performing
mod Beside
mod Emptied
mod Truncations
mod Flushes
mod EndCalls
mod Known
mod Fitting
mod Logs
mod LogShown
mod Shows
mod ScriptLemmas
mod Manners
mod Comings
mod Follows
mod Opening
mod Recovering
mod Beginning
mod Views
pub mod Keeping

pub mod Numbers
pub mod Settled
pub mod Turns
pub mod Follows
pub mod FollowsDesk
pub mod Runs

pub mod TicketQueue
pub mod Bells
pub mod Patience
pub mod Loans

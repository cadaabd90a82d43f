pub mod Refusals
pub mod RenewedBytes
pub mod AreasRecovered
mod ChecksShown
mod JsonShown
mod DumpsShown
mod PicturesRead

pub mod LogText
pub mod NodeLog
pub mod InPlace
pub mod OneCall

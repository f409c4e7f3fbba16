pub mod Charges
pub mod Refusals
pub mod Running
pub mod Telling
pub mod Opened
pub mod Numbers
pub mod Beginning
mod Filled
pub mod Handing
pub mod Values
pub mod Walks
pub mod Finishing
pub mod Collected
pub mod Reasoned
pub mod Plainly
pub mod ToldReasons

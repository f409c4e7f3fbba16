pub mod Numbers
pub mod Held
pub mod Sessions
pub mod Tags
pub mod Texts
pub mod Reasons
pub mod Runs

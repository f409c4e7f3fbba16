pub mod Walks
pub mod Plain
pub mod Opening
pub mod Tape
pub mod ReadOn
pub mod InPage
pub mod More
pub mod Telling

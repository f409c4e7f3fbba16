pub mod TagEvents
pub mod Handlers
pub mod RunRefusals
pub mod Collecting
pub mod ToldEvents

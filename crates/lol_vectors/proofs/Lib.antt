pub mod PlainTests
pub mod PlainListed
pub mod PlainIds
pub mod PlainClosings
pub mod PlainTrees

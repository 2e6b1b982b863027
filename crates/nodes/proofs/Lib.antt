pub mod Position
pub mod Tests

pub mod KeyTests
pub mod Windowed
pub mod GivenRows
pub mod Fitted
pub mod Held
pub mod Streams
pub mod Tested

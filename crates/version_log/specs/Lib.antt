pub use Rattle.definitions.specs.Items
pub use Rattle.definitions.specs.Sets
pub use Rattle.definitions.specs.Histories
pub mod Logs
pub mod Answers
pub mod Arrivals

pub use Rattle.definitions.specs.Items
pub use Rattle.definitions.specs.Sets
pub mod Bounds
pub mod Prefixes

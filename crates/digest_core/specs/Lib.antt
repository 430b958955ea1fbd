pub use Rattle.definitions.specs.Items
pub use Rattle.definitions.specs.Fingerprints
pub use Rattle.definitions.specs.Wire
pub mod Laws
pub mod Counts
pub mod Prints
pub use Rattle.definitions.specs.Sets

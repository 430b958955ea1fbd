pub use Rattle.definitions.specs.Items
pub use Rattle.definitions.specs.Sets
pub use Rattle.definitions.specs.Fingerprints
pub mod Stores
pub mod Sums
pub mod Flat
pub mod Packs

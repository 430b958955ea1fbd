pub use Rattle.definitions.specs.Refusals
pub mod Causes
pub mod Faults
pub mod Misses
pub mod Origins

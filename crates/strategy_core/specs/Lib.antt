pub use Rattle.definitions.specs.Strategies
pub use Rattle.definitions.specs.Refusals
pub mod Texts
pub mod Refused
pub mod Acts
pub mod Weighed
pub mod Rules

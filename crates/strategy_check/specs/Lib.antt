pub use Rattle.definitions.specs.Strategies
pub use Rattle.definitions.specs.Ranks
pub use Rattle.definitions.specs.Climbs
pub use Rattle.definitions.specs.Refusals
pub mod Checked
pub mod Ranking
pub mod Refused

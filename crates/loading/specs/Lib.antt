pub use Rattle.version_log.specs.Logs
pub mod Cutting
pub mod Sharded
pub mod Folders
pub mod Forgetting
pub mod Rewriting
pub mod Metering

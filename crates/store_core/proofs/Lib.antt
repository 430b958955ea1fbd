pub mod Fronts
pub mod Made
pub mod Packs
pub mod Running

mod Joined
mod Once
mod Plain

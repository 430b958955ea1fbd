-- Worked cases. Each is stated as an equation and computed by the check.
mod Examples
mod Laws
mod Tables
mod Talks
mod Spellings
mod Streams
mod Placings
mod Runs
mod Parts
mod Hearings
mod Accounts
mod Compact

mod Running
mod Parity
mod Delivering
mod Absorbing
mod Ended
mod Runs

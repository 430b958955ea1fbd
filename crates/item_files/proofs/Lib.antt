mod Counts
mod Cuts
mod Halves
mod Pieces
mod Took

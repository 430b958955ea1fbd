mod Answered
mod Listings
mod Pieces
mod Streamed
mod Whole

mod FirstLines
mod Plain
mod ReadAgain

mod Arrivals
mod Once
mod Rising

mod Adding
mod Hosts
mod Rooms
mod ShardDigits
mod Values

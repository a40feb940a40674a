mod Calls
mod Going
mod Rooms
mod Stops
mod Tallies
mod Worked
mod Writing

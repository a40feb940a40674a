mod Noises
mod Phasing
mod Rows
mod Serving
mod Worked

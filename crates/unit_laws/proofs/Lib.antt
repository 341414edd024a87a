mod Ones
mod Runs
mod Steps
mod Whole
mod Parts
mod Lines

mod Runs
mod Writing

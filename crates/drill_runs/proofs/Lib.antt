mod Counts
mod Asked

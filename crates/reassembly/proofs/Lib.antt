mod Accepted
mod Splits
mod Gathered

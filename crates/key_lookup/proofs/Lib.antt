pub mod Halving

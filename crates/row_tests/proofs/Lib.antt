mod Widening
mod FirstVersion
mod Settling
mod Blocks
mod Passing

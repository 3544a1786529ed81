pub mod Counts
pub mod Files
pub mod MachineFiles
pub mod Sink
pub mod MemoryFiles
pub mod MemorySinks
pub mod Whole

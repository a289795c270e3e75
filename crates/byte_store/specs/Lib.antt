pub mod Bytes
pub mod Memories
pub mod Steps
pub mod Decoding
pub mod Writing
pub mod Meaning

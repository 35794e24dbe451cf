-- The laws and theorems of the crate `line_chunks`.
pub mod Answering
pub mod Chunks
pub mod Turns
pub mod Running
pub mod Examples

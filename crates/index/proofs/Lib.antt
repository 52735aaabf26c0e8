pub mod Linked
pub mod Seeking

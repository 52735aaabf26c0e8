pub mod Peel
pub mod Search
pub mod Pages

pub mod Tables
pub mod Noting
pub mod Owners
pub mod Steps
pub mod Running

pub mod Working
pub mod Header

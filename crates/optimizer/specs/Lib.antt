-- optimizer
pub mod Promise

pub mod Orders
pub mod Order

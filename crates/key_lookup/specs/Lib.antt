pub mod Order
pub mod NumberOrder
pub mod Numbers

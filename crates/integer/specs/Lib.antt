pub mod Fill
pub mod Order
pub mod Word

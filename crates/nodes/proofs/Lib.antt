pub mod Lists
pub mod MaskBits
pub mod Read

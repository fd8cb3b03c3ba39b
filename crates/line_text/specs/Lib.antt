pub mod Lines
pub mod FirstFault
pub mod Written
pub mod Numbers

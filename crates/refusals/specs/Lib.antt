pub mod Numbers
pub mod Said

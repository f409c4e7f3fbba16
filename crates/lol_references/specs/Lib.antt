pub mod References
pub mod Names
pub mod Numbers
pub mod Decoding
pub mod WorkedRows
pub mod Attributes

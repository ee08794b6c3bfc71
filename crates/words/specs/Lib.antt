-- Little-endian numbers in bytes.
pub mod Words

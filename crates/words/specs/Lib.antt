-- `Words` has what crosses to C as words.
pub mod Words

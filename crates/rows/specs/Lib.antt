-- What a text's lines say of a goal's table, and its body in bytes.
pub mod Rows
pub mod Cells

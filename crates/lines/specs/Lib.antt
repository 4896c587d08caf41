-- What a text's lines say: its words, the names of a table, sets of numbers, and the moves and labels of a line.
pub mod Words
pub mod Names
pub mod Numbers
pub mod Says
pub mod Steps
pub mod Tables

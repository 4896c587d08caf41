-- What the promises of putting text in a line are said with.
pub mod PutText
pub mod Puts
pub mod Lines

-- What the promises of drawing are said with.
pub mod Queue

-- What it is that no word of a text's moves, facts and clauses is skipped.
pub mod Whole

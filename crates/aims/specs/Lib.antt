-- What a text's lines say of the start, of the first goal state, and of the clauses of the goal.
pub mod Aims

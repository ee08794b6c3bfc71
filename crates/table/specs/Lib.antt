-- The table's rule, and what follows from it.
pub mod Rule

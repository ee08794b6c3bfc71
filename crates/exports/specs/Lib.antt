-- What the contracts of the exports cite.
pub mod Leaf
pub mod Left

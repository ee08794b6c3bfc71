-- Every row of every table holds, by computation from the definitions that the contracts cite.
pub mod Table
pub mod Limits
pub mod Serials
pub mod Edges

-- Sixteen lanes of which four at most are out of idle (document 02, R-4). The calls stand in Among, and in Settled
-- how the code makes their answers.
pub mod Among
pub mod Settled

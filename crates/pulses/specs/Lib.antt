-- Demand 3 of a program. What it says is in Runs, Yardstick and Demand; in Auto mode in Auto; what follows for the sum of carried widths in Sums.
-- Hollow has programs that do not meet it, Examples and AutoExamples what the lane gives in small lists; Lists and Ran serve all three.
pub mod Runs
pub mod Yardstick
pub mod Demand
pub mod Sums
pub mod Auto
pub mod Lists
pub mod Ran
pub mod Hollow
pub mod Examples
pub mod AutoExamples

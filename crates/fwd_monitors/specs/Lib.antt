-- To be believed: Counting, which says what is counted for the metrics page, and Told, which says
-- what a monitor is told. Asking only describes the code.
pub mod Asking
pub mod Counting
pub mod Told

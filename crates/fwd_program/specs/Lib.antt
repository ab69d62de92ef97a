-- To be believed: Asked, which says which words ask for a run or a stop; Ends, which says how a
-- run ends, and what it wrote by then; Shows, which words show the version or the calls; and Stops,
-- what a stop exits with. No file here only describes the code.
pub mod Asked
pub mod Ends
pub mod Shows
pub mod Stops

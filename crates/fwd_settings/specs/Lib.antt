-- To be believed, all seven: Whole and Ranges, of which public clauses speak, stand on the others.
-- No file here only describes the code.
pub mod Addresses
pub mod Faults
pub mod Kinds
pub mod Keys
pub mod Unknown
pub mod Whole
pub mod Ranges

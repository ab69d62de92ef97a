-- To be believed: Heads, Scans, Cuts, Scanners, Walks, Streams, Values, Texts and Flat, of which
-- public clauses speak.
-- Extents, Plain, Stacks and ScanStates only describe how the code scans a value.
pub mod Cuts
pub mod Extents
pub mod Flat
pub mod Heads
pub mod Plain
pub mod Scanners
pub mod Scans
pub mod Stacks
pub mod ScanStates
pub mod Streams
pub mod Texts
pub mod Values
pub mod Walks

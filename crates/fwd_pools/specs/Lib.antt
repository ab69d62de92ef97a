-- To be believed: Pools, which says what the outputs of a relay are.
pub mod Pools

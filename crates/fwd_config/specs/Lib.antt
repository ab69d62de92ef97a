-- To be believed: Configs, which says what settings set the relay to.
-- No file here only describes the code.
pub mod Configs

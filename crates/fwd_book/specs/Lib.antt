-- what a reader has to believe
pub mod History
pub mod Receipts
pub mod Live
pub mod Refusals
-- how the code keeps it
pub mod Gathering
pub mod Slots
pub mod Links
pub mod ChunkRefs
pub mod Parts

-- Definitions. A reader who asks what a buffer promises must believe these eight: the public calls
-- and laws speak of them.
pub mod Cells
pub mod History
pub mod Events
pub mod Live
pub mod Free
pub mod Soundness
pub mod Spans
pub mod TagCounts
-- So do those of what a chunk's readers give.
pub mod Rows
pub mod Parts
pub mod Pieces
pub mod Lending
pub mod Endings
-- These ten only describe how the code keeps chunks and fills them. No public clause speaks of
-- them.
pub mod MinTrees
pub mod Levels
pub mod Slots
pub mod Slabs
pub mod Newest
pub mod Listing
pub mod Stored
pub mod Filling
pub mod Plans
pub mod Runs
-- Of the crates below, for those above.
pub use Rattle.fwd_base.specs.declared.counts.Counts
pub use Rattle.fwd_base.specs.declared.report.Report
pub use Rattle.fwd_base.specs.declared.tag_count.TagCount
pub use Rattle.fwd_base.specs.Waits

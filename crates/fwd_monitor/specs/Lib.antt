-- To be believed: Metrics, Tallies, Samples, Copies, Page, Replies and Requests. The public calls
-- and laws speak of them.
-- Lines and Statuses only describe how the code judges a head before it writes the reply.
pub mod Copies
pub mod Lines
pub mod Metrics
pub mod Page
pub mod Replies
pub mod Requests
pub mod Samples
pub mod Statuses
pub mod Tallies
-- Of the crate below, for those above.
pub use Rattle.fwd_base.specs.declared.counts.Counts
pub use Rattle.fwd_base.specs.declared.report.Report
pub use Rattle.fwd_base.specs.declared.tag_count.TagCount

-- To be believed: Loops, which says what its settings set a relay to; and Delivered, what a relay
-- has delivered whose stop ended well. Of the crates below, for
-- those above: StartFault, why a relay does not start; Ending, why a run ended; Pools, which says
-- what the outputs of a relay are; and Ends, which says how the counts at a run's end fit together,
-- and behind which history the reports are true.
pub mod Loops
pub mod Delivered
pub use Rattle.fwd_listeners.specs.declared.ending.Ending
pub use Rattle.fwd_monitors.specs.declared.start_fault.StartFault
pub use Rattle.fwd_pools.specs.Pools
pub use Rattle.fwd_reader.specs.Ends

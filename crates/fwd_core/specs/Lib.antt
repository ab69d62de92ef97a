-- To be believed: Lanes, Runs and Standing. The public calls speak of them.
-- Places and Relays only describe how the code finds and makes its connections.
pub mod Lanes
pub mod Places
pub mod Relays
pub mod Runs
pub mod Standing
-- Of the crates below, for those above.
pub use Rattle.fwd_model.specs.declared.config.Config
pub use Rattle.fwd_model.specs.declared.event.EndKind
pub use Rattle.fwd_model.specs.Live
pub use Rattle.fwd_model.specs.Outputs
pub use Rattle.fwd_model.specs.Step
pub use Rattle.fwd_output.specs.Coupling
pub use Rattle.fwd_output.specs.OutputEvents
pub use Rattle.fwd_output.specs.HandedBack

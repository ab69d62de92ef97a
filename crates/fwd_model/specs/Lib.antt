-- To be read in this order. Outcome, Layers and Step say what each event does, over any layers;
-- Books to History are the history of all that came, with the histories of the crates below;
-- Names says which events may come in either order; Delivered is what is promised of it; Live is
-- what of it still matters, which the code shows. All of them are to be believed: no file here only
-- describes the code.
pub mod Outcome
pub mod Setups
pub mod Books
pub mod Outputs
pub mod Layers
pub mod Step
pub mod Sessions
pub mod History
pub mod Names
pub mod Delivered
pub mod Live
-- Of the crates below, for those above: what events and answers hold.
pub use Rattle.fwd_chunks.specs.declared.flush.FlushKind
pub use Rattle.fwd_chunks.specs.declared.wanted.Wanted
pub use Rattle.fwd_session.specs.declared.fault.SessionFault
pub use Rattle.fwd_source.specs.declared.fault.SourceFault

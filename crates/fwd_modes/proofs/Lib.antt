pub mod Spelled
mod Examples
pub mod TextLemmas
pub mod TimeLemmas
pub mod EntryLemmas
pub mod FrameLemmas
pub mod KeptLemmas
pub mod Judgements
pub mod Moving
pub mod Fronting
pub mod ShortPairs

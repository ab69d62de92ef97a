pub mod HeadLemmas
pub mod LineLemmas
pub mod ReplyLemmas
pub mod TagLemmas
pub mod TextLemmas

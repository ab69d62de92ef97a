-- To be believed, all four: the public calls and laws speak of them.
-- History is what happened to the servers, and Live what of it still matters.
pub mod History
pub mod Choices
pub mod Live
pub mod Doubts

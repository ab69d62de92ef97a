-- To be believed, all but Hearing: public clauses and the relay's definitions speak of them.
-- Hearing only describes what the code has in hand while it hears a piece.
pub mod Asked
pub mod Judged
pub mod History
pub mod Live
pub mod Hearing
pub mod Numbers
pub mod Layer

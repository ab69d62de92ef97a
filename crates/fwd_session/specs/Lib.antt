-- To be believed, all but Flights and Hearing: the public calls and laws speak of them.
-- Flights only describes how the code keeps chunks, and Hearing what it has in hand while it hears
-- a piece.
pub mod ServerAcks
pub mod Said
pub mod History
pub mod Live
pub mod Flights
pub mod Hearing

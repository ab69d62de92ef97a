-- Acks is of the bytes of an acknowledgement, Owning of a connection's id, Visiting of a visit to a
-- stream, Hearing of the bytes that come, and Entering of a request that enters an output.
pub mod Acks
pub mod Owning
pub mod Visiting
pub mod Hearing
pub mod Entering

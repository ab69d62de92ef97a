-- What a reader must believe of a source's connection. Streams: what a stream is seen to do, and
-- how a visit to it ends. Costs: what a request takes beside its entries. Peers: what a connection
-- hears and sends, which requests it gives, and what it is told. Leaving: how far it has come, where
-- the relay was asked to stop.
pub mod Streams
pub mod Costs
pub mod Leaving
pub mod Peers

-- To be believed: Ends, which says how the counts at a run's end fit together, and behind which
-- history outputs are what they report; Admissions, where a source's requests go, and what becomes
-- of those that do not go there; Settlements, of which settled chunks the tickets are to be handed
-- in; Stores, what a store of tickets holds, and what each of its calls makes of that; OpenTickets,
-- what becomes of the two stores of an output; Tellings, who is told of receipts; Collections, of
-- which receipts; Rounds, at which outputs they are collected, and how often; Promises, what is
-- promised of each; Idling, which source gives its place to a new one; Lateness, which connection
-- had its time; Ages, how old something is; Entering, who may enter an output; Owing, what outputs
-- owe; Answering, what they answer, and owe no more; Routers, what is seen of a router; Queues,
-- which connections are ready, may be written, or wait. OpenConnections, Lending, Turning and
-- Waiting only describe the code.
pub mod Ends
pub mod Admissions
pub mod Stores
pub mod Tellings
pub mod Collections
pub mod Promises
pub mod Idling
pub mod Lateness
pub mod Turning
pub mod OpenConnections
pub mod Routers
pub mod OpenTickets
pub mod Ages
pub mod Entering
pub mod Settlements
pub mod Rounds
pub mod Owing
pub mod Answering
pub mod Queues
pub mod Waiting
pub mod Lending

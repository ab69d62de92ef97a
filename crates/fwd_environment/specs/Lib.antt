-- What a reader must believe of what a worker asks of its environment. Links: what a link tells of
-- its calls. Denials: which losses say that a server does not let the relay in.
pub mod Links
pub mod Denials

pub mod AddressLemmas
pub mod DocumentLemmas
mod Examples
pub mod FirstLemmas
pub mod KeyLemmas
pub mod LeastLemmas
pub mod ListLemmas
pub mod UnknownLemmas
pub mod RangeLemmas
pub mod RefusalLemmas

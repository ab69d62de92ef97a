pub mod WordLemmas
pub mod HexText
pub mod Spelling
pub mod Rows
pub mod ScriptLemmas
pub mod ReplayLemmas
pub mod EventText
pub mod ListText
pub mod FirstBad
pub mod History
pub mod Examples
pub mod Results
pub mod CheckLemmas
mod OpenLemmas

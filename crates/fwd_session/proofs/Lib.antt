mod Examples
pub mod Broken
pub mod Lists
pub mod Saying
pub mod Following
pub mod Taking
pub mod Pieces
pub mod Framing
pub mod Accepting
pub mod Gathering
pub mod Unsent
pub mod Carrying
pub mod Alone
pub mod Firsts
pub mod Judging
pub mod Silence

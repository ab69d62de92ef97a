-- Steps is the ghost side of an entry, and Entries what who has a page may add, and knows then.
pub mod Steps
pub mod Entries

-- To be believed: Found, which says what was found of the settings in a text.
pub mod Found

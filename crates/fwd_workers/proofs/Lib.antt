mod Adding
pub mod Serving
pub mod Lasting
pub mod Leading
pub mod Taking
pub mod Keeping
pub mod Earning
pub mod Earned
pub mod Placing

pub mod Places
pub mod DateAndTime
pub mod Loops
pub mod Weekdays
pub mod Reached
pub mod Examples

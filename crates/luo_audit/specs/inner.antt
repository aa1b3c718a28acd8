-- Words of private functions.
pub mod Answered

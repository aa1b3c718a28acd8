pub mod Next
pub mod Rooms
pub mod Laws
pub mod Facts

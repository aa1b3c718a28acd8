pub mod Grid
pub mod Shares
pub mod Partial
pub mod Obeys
pub mod Filled
pub mod Listed
pub mod Layout
pub mod Plan
pub mod Running
pub mod Points
pub mod Tasks
<<<<<<< HEAD
pub mod Laid
=======
pub mod Asked
pub mod Forms
pub mod Collections
pub mod Walks
>>>>>>> 3a3930eae5e45d38e04d5be5aca2d25481bb6c35

pub mod Hooks
pub mod Memory
pub mod Renewed
pub mod Sized
pub mod Slotwise

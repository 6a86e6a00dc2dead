pub mod BlankValues
pub mod LeastSlots

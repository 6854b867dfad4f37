pub mod RowSlots
pub mod ColSlots

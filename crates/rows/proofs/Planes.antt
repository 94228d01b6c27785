-- Many rows at once: what is promised, and the laws of planes, which have a bit for each row.
pub mod Bits
pub mod Lanes
pub mod Counting
pub mod Totals
pub mod Demand
pub mod Calls
pub mod LaneBytes
pub mod Examples

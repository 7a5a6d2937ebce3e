pub mod Pair
pub mod Scan
pub mod Climb

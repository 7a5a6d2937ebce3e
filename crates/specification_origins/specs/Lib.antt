pub mod Cells
pub mod Origins
pub mod OriginsList
pub mod History
pub mod Votes

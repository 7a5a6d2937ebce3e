pub mod MarkLaws
pub mod PairLaws
pub mod ReadLaws
pub mod StampLaws
pub mod ScanLaws
pub mod ClimbLaws
pub mod PlaceLaws
pub mod HalfLaws

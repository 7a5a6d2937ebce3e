pub mod SearchingLaws

pub mod GapLaws
pub mod ApartLaws
pub mod CutLaws
pub mod NearLaws
pub mod JoinLaws

pub mod LabelLaws
pub mod RowLaws
pub mod ListLemmas
pub mod SizeLemmas
pub mod PlaceLemmas
pub mod RowAnswers
pub mod StepAnswers
pub mod FollowingLemmas

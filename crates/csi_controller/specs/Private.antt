pub mod Worked
pub mod OneRow
pub mod Counts
pub mod Plan
pub mod PlanLaws
pub mod SoundRow
pub mod Judging

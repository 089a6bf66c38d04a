pub mod Fenced
pub mod OneRow
pub mod Laws
pub mod Worked
pub mod SoundRow
pub mod Judging
pub mod PlanLaws
pub mod Step

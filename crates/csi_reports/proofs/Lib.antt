pub mod Places
pub mod WrittenLists
pub mod WrittenSteps
pub mod SeenInPlace
pub mod OneOrder
pub mod OneReport
pub mod OneLine
pub mod LostNodes
mod Attachments

mod ListFacts
mod StoredRows
mod TextMeanings
mod QueryAnswers
mod Keys
mod Sorted
mod Schemas
mod MakingTable
mod ReadingRows
mod RemovingRow
mod PuttingRow
pub mod KeyOrder
pub mod Tabled
pub mod Loading
pub mod ForeignRows
pub mod Closed
pub mod Refusals
pub mod FoundAgain
pub mod Blank

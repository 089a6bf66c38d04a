pub mod Items
pub mod OwnedValues
pub mod ReadLists
pub mod ReadHappenings
pub mod PlainTexts
pub mod PlainSchedules
pub mod EventTokens
pub mod UsualCommands
pub mod HexTexts
pub mod LineTexts
pub mod AskedCommands
mod EventsHappen

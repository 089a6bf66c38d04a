mod Entered
mod FilesAdded
mod HelpBehind
mod AddedWords
mod AllTexts

pub mod Shelf
pub mod ShelfLaws

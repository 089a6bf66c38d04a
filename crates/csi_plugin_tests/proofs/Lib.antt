pub mod ShelfRows

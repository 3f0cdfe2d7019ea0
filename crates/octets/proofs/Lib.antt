pub mod Numbers
pub mod CheckLaws
pub mod Orders
pub mod Parts
pub mod Shown
pub mod FieldLaws

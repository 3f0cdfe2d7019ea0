pub mod Placing
pub mod Removing
pub mod Rowing
pub mod Places
pub mod Tabling
pub mod TableLaws

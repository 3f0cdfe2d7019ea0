pub mod Masks
pub mod FormLaws
pub mod OrderLaws
pub mod SayLaws

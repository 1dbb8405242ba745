pub mod Forms
pub mod Table
pub mod Rows
pub mod TypeTable
pub mod Whole
pub mod Once

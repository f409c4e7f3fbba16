pub mod KeyHashes
pub mod KeyTables
pub mod SortedHashes
pub mod TagHashes
pub mod Rows
pub mod KeyRows
pub mod KeyLaws
pub mod LeftLaws

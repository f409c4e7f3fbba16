pub mod Numbers
pub mod PageParts
pub mod SelectorLists

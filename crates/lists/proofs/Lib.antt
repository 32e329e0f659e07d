-- Laws of whole lists of calls.
pub mod ListLaws

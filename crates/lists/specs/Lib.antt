-- What the contract of a list of calls cites.
pub mod Lists

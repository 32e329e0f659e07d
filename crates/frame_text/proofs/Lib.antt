-- Laws about the definitions of specs/, and the proofs of its claims.
pub mod Laws
pub mod Fields
pub mod Words
pub mod Requests
pub mod Feeding
pub mod WholeCase

-- Sampling by variables: paper 02, card 2; document 000 (ISO 28594), 5.1.2.3.4 and Table D.3. In the order of reading.
pub mod Fractions
pub mod Samples
pub mod Criteria
pub mod Judging
pub mod Working
pub mod Claims
pub mod Cases

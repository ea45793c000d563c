-- Five files Answers.antt stand here, for a number that is a mode: with known named on the functions beside unknown, the check does not find what they return.
pub mod Exporting

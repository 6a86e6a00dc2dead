pub mod Absent
pub mod Numbers

pub mod Origins
pub mod Stacked

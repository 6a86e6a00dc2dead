pub mod ColumnLemmas
pub mod FillLemmas
pub mod EmptyLemmas
pub mod BlankLemmas

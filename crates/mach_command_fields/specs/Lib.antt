pub mod CommandTables
pub mod FieldRows

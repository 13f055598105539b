-- A row place by place, and a load row by row, in the stores.
pub mod Rows
pub mod Stores

-- Column k of a step, with the right side and the diagonal.
pub mod Column

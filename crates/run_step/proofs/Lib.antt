-- Laws of one step.
pub mod Elimination
pub mod PivotRow
pub mod WholeStep

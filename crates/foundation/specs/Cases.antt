-- Tables of small computed cases, one for each part of the definitions. A row sets what a definition yields beside what documents 01 and 02 say, and
-- names the sentence that it holds. Numbers f64 are given and expected as bit patterns in hexadecimal. What the rows expect was worked out from the documents
-- or by a dense program of different authorship, never by the definitions themselves.
pub mod Show
pub mod Lists
pub mod Numbers
pub mod Pattern
pub mod Plan
pub mod PlanParts
pub mod PlanCall
pub mod LentPlan
pub mod Reference
pub mod Stopping
pub mod Back
pub mod StepParts
pub mod Faint
pub mod RunCall
pub mod Tall
pub mod Shown
pub mod Free
pub mod Orthogonal
pub mod Job
pub mod Printing
pub mod Tally
pub mod Offset
pub mod Load

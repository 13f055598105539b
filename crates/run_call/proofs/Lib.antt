-- Laws of a run once planning has answered: the plan that it reads, and what its answer and stores are.
pub mod Agreed
pub mod Outcomes
pub mod Leaving

-- What the steps of a run and a whole run take for granted and leave.
pub mod Running

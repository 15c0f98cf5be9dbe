pub mod CallLaws
pub mod ChoiceDue
pub mod FiledDue
pub mod WorkDue

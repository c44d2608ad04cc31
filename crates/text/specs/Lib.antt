-- text
pub mod Text
-- plan_text
pub mod PlanText
pub mod BodyLines
pub mod Example

-- project
pub mod Records
pub mod Refusals
-- refusals
pub mod Checks
-- problem
pub mod Problem
-- orders
pub mod Order
-- instances
pub mod Instances

pub mod Trees
pub mod Bodies
pub mod Following
pub mod Simulation
pub mod Kept
pub mod CallPlans
pub mod AttributeCalls
pub mod ModelCalls

pub mod Outcomes
pub mod ChargeSteps
pub mod ValueForms
pub mod MakeSteps
pub mod MakeLaws
pub mod AtomLaws

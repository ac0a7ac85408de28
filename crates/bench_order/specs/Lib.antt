-- A script on the bench is a run of the set. The statements, one page each:
pub mod ScriptTheorem
pub mod ReportTheorem
pub mod LimitTheorem
pub mod CallsTheorem
pub mod CaseTheorem
-- What they speak of: a script, what is told and reported of a run, document 01's case.
pub mod Script
pub mod Told
pub mod Report
pub mod WorkedCase

-- The laws of `bench_order`: the proofs of its statements, the page's name in parentheses.
-- Every script is a run with one order (ScriptTheorem).
pub mod ScriptRunLaws
-- It prints its run, and the number of each refused part (ReportTheorem).
pub mod ReportLaws
-- It never sends past message 127 (LimitTheorem).
pub mod LimitLaws
-- Calls are the script (CallsTheorem).
pub mod CallLaws
-- Document 01's case, computed (CaseTheorem).
pub mod WorkedCaseLaws
-- For these: a line, part by part; no operation on one block; what is printed at an event is what is seen there.
pub mod Parts
pub mod WholeStripeLaws
pub mod ScriptPartLaws
pub mod ToldLaws
pub mod PrintedLaws

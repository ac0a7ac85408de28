-- Document 01's figures and its bench case, and two cases of document 02, as statements.
pub mod Figures
pub mod WorkedRun
pub mod FiveOfSeven
pub mod ShortLogs

-- The proofs of the figures and of the bench case.
pub mod FigureLaws
pub mod WorkedRunLaws
pub mod FiveOfSevenLaws
pub mod ShortLogLaws

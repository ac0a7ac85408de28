-- What the theorems about a coordinator's steps speak of. OpCases: where an operation is. Soundness: sound records with arrays of full length.
-- LetterTheorem: letters change nothing else.
pub mod OpCases
pub mod Soundness
pub mod LetterTheorem

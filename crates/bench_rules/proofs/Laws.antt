-- A part of a line: one refusal, or nothing; a write's content is bytes.
pub mod ContentLaws
pub mod TurningLaws

-- Texts placed one after another, their lengths, and the lines made of them.
pub mod PrintedLineLaws
pub mod TextLaws
pub mod WrittenLaws

-- Letters: the letters of document 02's E5, and which one goes with a read's answer and with an abort.
pub mod Letters

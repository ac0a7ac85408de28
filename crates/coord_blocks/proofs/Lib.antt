-- What is proved of the definitions, beside the functions.
pub mod Laws

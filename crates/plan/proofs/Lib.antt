pub mod Agree
pub mod Laws
pub mod Asked
pub mod Formulas

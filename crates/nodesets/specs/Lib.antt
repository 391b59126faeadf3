pub mod Sets
pub mod Pairs
pub mod Lending

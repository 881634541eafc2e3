pub mod Places
pub mod Fitting
pub mod Answering
pub mod ElementCall
pub mod GroupCall
pub mod Requantified

pub mod Requantifying

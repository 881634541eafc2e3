pub mod Quantifying

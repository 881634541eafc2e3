pub mod Automaton
pub mod Judge

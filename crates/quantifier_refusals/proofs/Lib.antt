pub mod QuantifierLaws

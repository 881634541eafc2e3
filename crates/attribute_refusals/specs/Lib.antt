pub mod OwnAttributes

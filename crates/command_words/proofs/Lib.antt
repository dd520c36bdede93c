pub mod FiveWords

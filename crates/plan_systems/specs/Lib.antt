pub mod SystemsText

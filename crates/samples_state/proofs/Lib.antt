pub mod FigureLaws
pub mod StateLaws

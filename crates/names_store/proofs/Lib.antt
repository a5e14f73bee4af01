pub mod NoteLaws
pub mod StoreLaws
pub mod RenderBack

pub mod SlotLaws
pub mod StripeLaws
pub mod HeaderLaws
pub mod LayoutLaws
pub mod RewriteLaws

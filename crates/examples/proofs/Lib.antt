pub mod SeenLaws
pub mod Hold
pub mod Earlier

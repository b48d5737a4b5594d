pub mod AreaOrder
pub mod RoleLaws
pub mod RunLaws
pub mod ShapeCuts
pub mod ShapeLaws
pub mod SheetLaws
mod Examples

pub mod ItemShapes

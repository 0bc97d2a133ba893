pub mod Expr

pub mod Ddl

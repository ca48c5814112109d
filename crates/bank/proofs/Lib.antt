pub mod Standards

pub mod Numbers
pub mod Standard
pub mod Banks

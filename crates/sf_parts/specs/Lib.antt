pub mod Admitted
pub mod Props
pub mod Built
pub mod Table
pub mod Rules
pub mod Numbers

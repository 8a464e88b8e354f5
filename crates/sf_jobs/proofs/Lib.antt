mod Common
mod Tokens
mod Meant
mod Lines
mod Four
mod Texts

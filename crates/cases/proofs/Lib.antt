mod Each
mod Marks

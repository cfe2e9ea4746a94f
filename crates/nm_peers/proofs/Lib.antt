mod Words
mod Apart
mod Lines

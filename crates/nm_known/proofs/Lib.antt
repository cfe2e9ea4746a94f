mod Written
mod Going
mod Telling
mod Heard
mod Refused
mod Read

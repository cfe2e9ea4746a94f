mod Courses
mod Nodes
mod Lengths

mod ConsistentLiterals
mod Courses
mod Growth
mod ToldLevels

mod AssertedBounds
mod Ordered
mod Outcomes
mod Tables

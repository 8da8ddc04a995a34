mod Taking
mod Lawful
mod Running

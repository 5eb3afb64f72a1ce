mod Judging
mod Lines
mod Taking

mod Addresses
mod Settled

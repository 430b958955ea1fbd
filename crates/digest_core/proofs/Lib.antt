mod Bytes
mod Unions

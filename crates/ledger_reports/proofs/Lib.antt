mod Order
mod Occupied

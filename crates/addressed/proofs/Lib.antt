-- The laws of addressed commands.
pub mod Laws

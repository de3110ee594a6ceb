-- Believed.
-- A message with the digest that it goes by, which need not be its own.

pub record Carried (M D : Type 0) : Type 0 where
  pub message : M
  pub digest : D

-- The state of what takes a stream: its own, that of the store on which it works, and that of its output. This profile's own.

pub record State (A S O : Type 0) : Type 0 where
  pub own : A
  pub store : S
  pub out : O

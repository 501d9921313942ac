-- What a map stands for: a finite graph with starts, marked nodes, and letters on its edges.
use Rattle.std.specs.Prelude.{◌≡◌, ℕ, ◌^◌, ◌<◌, Bool, true}

pub record Graph : Type 0 where
  pub letters : ℕ
  pub node : ℕ → Bool
  pub start : ℕ → Bool
  pub marked : ℕ → Bool
  -- from a node, by a letter, to a node
  pub edge : ℕ → ℕ → ℕ → Bool

-- The bounds of graphs: fewer than 256 letters, nodes below 2^64, and only nodes are starts or marked or have edges.
pub record Bounded (g : Graph) : Type 0 where
  pub few_letters : g.letters < 2 ^ 8
  pub nodes : (v : ℕ) → g.node v ≡ true → v < 2 ^ 64
  pub starts : (v : ℕ) → g.start v ≡ true → g.node v ≡ true
  pub marks : (v : ℕ) → g.marked v ≡ true → g.node v ≡ true
  pub edges : (v l w : ℕ) → g.edge v l w ≡ true → (g.node v ≡ true) × (l < g.letters) × (g.node w ≡ true)

-- What a node of the ranked graph is made of.
use Rattle.std.specs.Prelude.{ℕ, Bool, Option}

-- A node tells where the duty is, and of the rule where it can be: those states have a rank, and the others none. Ranks
-- never rise along a run of the rule and are even at its marked states. So a run whose rank stays odd from some position on
-- passes no marked state from there on, and where every run comes to that, the rule does not take the word.
pub record Node : Type 0 where
  -- the duty's state
  pub duty : ℕ
  -- the level ranking: of each state of the rule its rank, or none
  pub rank : ℕ → Option ℕ
  -- the owed set, of states that still owe an odd rank: a run to them has had even ranks since the set was empty
  pub owed : ℕ → Bool
  -- false while a marked state of the duty is awaited, true while the owed set is to become empty
  pub turn : Bool

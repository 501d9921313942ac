-- Nodes that come in rising order, each the least that is left.
use Rattle.std.proofs.Common.{◌≡◌, ℕ, ◌+◌, ◌^◌, ◌<◌, ◌≤◌, Bool, true, List, Some, None, Option, ◌⊎◌, subst, inl, inr, ⊎_elim, arith}
use Rattle.std.proofs.lemmas.Bool.{cases_lt}
use Rattle.std.specs.Option.{SomeIff}
use Rattle.graph.specs.Graphs.{Graph, Bounded}
use Rattle.numbers.specs.Least.{Least}
use Rattle.graph.specs.declared.implicit.ImplicitGraph.{ImplicitGraph}
use Rattle.graph.specs.declared.implicit.Nodes.{Nodes}
use Rattle.graph.specs.declared.implicit.Nodes.TheVariants.{Starts, Successors}
use Rattle.graph.specs.declared.implicit.Rising.{Rising}
use Rattle.graph.specs.Implicit.{graph_of, among}
use Rattle.graph.specs.Ascending.{Next, Rises}

pub among_below : (g : Graph) → Bounded g → (nodes : Nodes) (w : ℕ) → among g nodes w ≡ true → w < 2 ^ 64
among_below g b Starts w e = b.nodes w (b.starts w e)
among_below g b (Successors v letter) w e = b.nodes w (b.edges v letter w e).2

module _ (P : ℕ → Bool) (from v : ℕ) (below : (w : ℕ) → P w ≡ true → w < 2 ^ 64) (least : Least P from (Some v)) where
  -- up to the least one that is left is that one alone
  up_to : (w : ℕ) → P w ≡ true → w ≤ v → (w < from) ⊎ (w ≡ v)
  up_to w e le =
      ⊎_elim (λ (a : w < from). inl a)
      (λ (a : from ≤ w). ⊎_elim (λ (b : w < v). absurd (least.2 w a b e)) (λ (b : v ≤ w). inr (omega arith)) (cases_lt w v))
      (cases_lt w from)

  pub next_found : (after : Option ℕ) → SomeIff after (v + 1 < 2 ^ 64) (v + 1) → Next P (Some from) (Some v) after
  next_found None last = (least.1, λ w e u. up_to w e (omega (arith, last, below w e)), λ w lt. tt, tt)
  next_found (Some x) more = (least.1, λ w e lt. up_to w e (omega (arith, more)), λ w lt. omega (arith, more, least.0), omega (arith, more))

-- the same of the nodes that were asked for at first
pub next_of : {M : Type 0} (graph : M → List ℕ → ℕ → Graph) (s t : Rising M) (r : Option ℕ) (m : ImplicitGraph M) (nodes : Nodes)
    → s.graph ≡ m → s.nodes ≡ nodes → Rises graph s r t → Next (among (graph_of graph m) nodes) s.from r t.from
next_of graph s t r m nodes is_graph is_nodes rises =
    subst (λ n. Next (among (graph_of graph m) n) s.from r t.from) is_nodes
    (subst (λ y. Next (among (graph_of graph y) s.nodes) s.from r t.from) is_graph rises.gives)

-- The done part, where nothing is written to it.
use Rattle.std.proofs.Common.{◌≡◌, ℕ, ◌<◌, ◌≤◌, List, length, Some, None, Option, sym, ◌∙◌, subst, arith}
use Rattle.graph.specs.Graphs.{Graph}
use Rattle.graph.specs.Walks.{Edge, Measure}
use Rattle.records.specs.declared.record.Record.{Record}
use Rattle.search.specs.Changes.{Quiet}
use Rattle.search.specs.Searches.{Keeps}
use Rattle.records.specs.Tables.{node_at, measure_at}
use Rattle.search.specs.Trees.{Done, DoneTold}
use Rattle.search.proofs.Moves.{fun_at}

module _ (g : Graph) (top n : ℕ) (node measure node' measure' : ℕ → ℕ)
    (nodes : (k : ℕ) → top ≤ k → k < n → node' k ≡ node k) (measures : (k : ℕ) → top ≤ k → k < n → measure' k ≡ measure k) where
  told_as : (found : Option ℕ) → DoneTold g top n node measure found → DoneTold g top n node' measure' found
  told_as None told =
      λ i t h. subst (λ x. Measure g x (measure' i)) (sym (nodes i t h))
      (subst (λ x. Measure g (node i) x) (sym (measures i t h)) (told i t h))
  told_as (Some v) told = told

  pub done_as : (found : Option ℕ) → Done g top n node measure found → Done g top n node' measure' found
  done_as found d =
      record {
        closed =
            λ i w t h e. let p = d.closed i w t h (subst (λ x. Edge g x w) (nodes i t h) e) in
            (p.0, p.1, p.2, nodes p.0 p.1 p.2 ∙ p.3);
        small = λ i t h. omega (arith, measures i t h, d.small i t h);
        told = told_as found d.told;
      }

-- a record below the done part changes its letter or measure
pub done_quiet : (g : Graph) (i top : ℕ) (found : Option ℕ) (was work : List Record) → i < top → length work ≡ length was
    → Quiet i was work → Done g top (length was) (node_at was) (measure_at was) found
    → Done g top (length work) (node_at work) (measure_at work) found
done_quiet g i top found was work lt len q d =
    subst (λ n. Done g top n (node_at work) (measure_at work) found) (sym len)
    (done_as g top (length was) (node_at was) (measure_at was) (node_at work) (measure_at work) (λ k t h. fun_at q.nodes k)
    (λ k t h. q.measures k (λ e. omega arith)) found d)

pub keeps_nodes : (s top : ℕ) (was work : List Record) → length work ≡ length was → node_at work ≡ node_at was
    → Keeps s top was s top work
keeps_nodes s top was work len nodes v (i, used, is) = (i, (omega (arith, used.0), used.1), fun_at nodes i ∙ is)

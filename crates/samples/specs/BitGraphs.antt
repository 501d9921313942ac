-- The graph of a bit graph: 64 nodes, and sets of them as the bits of numbers, bit 0 the lowest.
use Rattle.std.specs.Prelude.{ℕ, ◌+◌, ◌*◌, min, ◌&&◌, List, nat_lt, slice_index}
use Rattle.std.proofs.Common.{arith}
use Rattle.std.proofs.lemmas.Bool.{and_parts, ltb-true}
use Rattle.graph.specs.Graphs.{Graph, Bounded}
use Rattle.numbers.specs.Bits.{bit}

abbrev pub bit_graph : ℕ → ℕ → ℕ → List ℕ → Graph
bit_graph letters starts marks rows =
    record {
      letters = min 255 letters;
      node = λ v. nat_lt v 64;
      start = λ v. nat_lt v 64 && bit starts v;
      marked = λ v. nat_lt v 64 && bit marks v;
      edge =
          λ v l w. nat_lt v 64
          && (nat_lt l (min 255 letters) && (nat_lt w 64 && bit (slice_index rows (v * letters + l)) w));
    }

pub bit_graph_bounded : (letters starts marks : ℕ) (rows : List ℕ) → Bounded (bit_graph letters starts marks rows)
bit_graph_bounded letters starts marks rows =
    record {
      few_letters = omega arith;
      nodes = λ v e. omega (arith, ltb-true v 64 e);
      starts = λ v e. (and_parts (nat_lt v 64) (bit starts v) e).0;
      marks = λ v e. (and_parts (nat_lt v 64) (bit marks v) e).0;
      edges =
          λ v l w e. let s = bit (slice_index rows (v * letters + l)) w in
          let k = min 255 letters in
          let a = and_parts (nat_lt v 64) (nat_lt l k && (nat_lt w 64 && s)) e in
          let b = and_parts (nat_lt l k) (nat_lt w 64 && s) a.1 in
          let c = and_parts (nat_lt w 64) s b.1 in
          (a.0, ltb-true l k b.0, c.0);
    }

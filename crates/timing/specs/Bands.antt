-- The graph of a band: n nodes in a row, of which each leads to as many after it as it reaches, and to those after it
-- that are in the tail, the last nodes of the row. Where it wraps, the last nodes lead on to the first ones.
use Rattle.std.specs.Prelude.{ℕ, ◌+◌, ◌%◌, ◌^◌, min, Bool, ◌&&◌, ◌||◌, ◌==◌, nat_le, nat_lt}
use Rattle.std.proofs.Common.{arith}
use Rattle.std.proofs.lemmas.Bool.{and_parts, ltb-true, eqb-true}
use Rattle.graph.specs.Graphs.{Graph, Bounded}

-- there are not more than 2^32 nodes
abbrev pub size : ℕ → ℕ
size n = min (2 ^ 32) n

-- v leads to w
abbrev pub leads : ℕ → ℕ → ℕ → Bool → ℕ → ℕ → Bool
leads n reach tail wraps v w =
    (nat_lt v w && (nat_le w (v + reach) || nat_le (size n) (w + tail))) || (wraps && nat_le (w + size n) (v + reach))

-- 0 is the start, and every third node may be marked
abbrev pub band : ℕ → ℕ → ℕ → Bool → Bool → Graph
band n reach tail wraps marked =
    record {
      letters = 1;
      node = λ v. nat_lt v (size n);
      start = λ v. (v == 0) && nat_lt v (size n);
      marked = λ v. nat_lt v (size n) && (marked && v % 3 == 0);
      edge = λ v l w. nat_lt v (size n) && (l == 0 && (nat_lt w (size n) && leads n reach tail wraps v w));
    }

pub band_bounded : (n reach tail : ℕ) (wraps marked : Bool) → Bounded (band n reach tail wraps marked)
band_bounded n reach tail wraps marked =
    record {
      few_letters = omega arith;
      nodes = λ v e. omega (arith, ltb-true v (size n) e);
      starts = λ v e. (and_parts (v == 0) (nat_lt v (size n)) e).1;
      marks = λ v e. (and_parts (nat_lt v (size n)) (marked && v % 3 == 0) e).0;
      edges =
          λ v l w e. let s = leads n reach tail wraps v w in
          let a = and_parts (nat_lt v (size n)) (l == 0 && (nat_lt w (size n) && s)) e in
          let b = and_parts (l == 0) (nat_lt w (size n) && s) a.1 in
          let c = and_parts (nat_lt w (size n)) s b.1 in
          (a.0, omega (arith, eqb-true l 0 b.0), c.0);
    }

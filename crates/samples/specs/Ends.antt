-- The graph of the least and the greatest node.
use Rattle.std.specs.Prelude.{◌≡◌, ℕ, ◌-◌, ◌^◌, ◌<◌, Bool, true, ◌&&◌, ◌||◌, ◌⊎◌, ◌==◌, nat_eq, nat_lt}
use Rattle.std.proofs.Common.{inl, inr, ⊎_elim, arith}
use Rattle.std.proofs.lemmas.Bool.{and_parts, eqb-true, ltb-true, or_cases, or_left, or_right}
use Rattle.graph.specs.Graphs.{Graph, Bounded}

abbrev pub is_end : ℕ → Bool
is_end v = v == 0 || v == 2 ^ 64 - 1

abbrev pub leads : Bool → ℕ → Bool
leads loops v = v == 0 || (loops && v == 2 ^ 64 - 1)

abbrev pub ends : Bool → Bool → Graph
ends loops marked =
    record {
      letters = 2;
      node = is_end;
      start = is_end;
      marked = λ v. marked && is_end v;
      edge = λ v l w. leads loops v && (nat_lt l 2 && w == 2 ^ 64 - 1);
    }

leads_node : (loops : Bool) (v : ℕ) → leads loops v ≡ true → is_end v ≡ true
leads_node loops v e =
    let last = nat_eq v (2 ^ 64 - 1) in
    ⊎_elim (or_left (v == 0) last) (λ h. or_right (v == 0) last (and_parts loops last h).1)
    (or_cases (v == 0) (loops && last) e)

end_below : (v : ℕ) → ((v == 0) ≡ true) ⊎ ((v == 2 ^ 64 - 1) ≡ true) → v < 2 ^ 64
end_below v (inl h) = omega (arith, eqb-true v 0 h)
end_below v (inr h) = omega (arith, eqb-true v (2 ^ 64 - 1) h)

pub ends_bounded : (loops marked : Bool) → Bounded (ends loops marked)
ends_bounded loops marked =
    record {
      few_letters = omega arith;
      nodes = λ v e. end_below v (or_cases (v == 0) (v == 2 ^ 64 - 1) e);
      starts = λ v e. e;
      marks = λ v e. (and_parts marked (is_end v) e).1;
      edges =
          λ v l w e. let last = nat_eq w (2 ^ 64 - 1) in
          let a = and_parts (leads loops v) (nat_lt l 2 && last) e in
          let b = and_parts (nat_lt l 2) last a.1 in
          (leads_node loops v a.0, ltb-true l 2 b.0, or_right (w == 0) last b.1);
    }
